-- Reading in pieces.
use Rattle.std.proofs.Common.{◌≡◌, ℕ, ◌+◌, ◌-◌, ◌<◌, ◌≤◌, List, [], ◌++◌, length, take, drop, Option, Some, None, ap, sym, subst, ◌∙◌, arith, length-drop}
use Rattle.std.proofs.Math.Seq.{take-append-add, take-add}
use Rattle.std.proofs.lemmas.List.{take-append-le, length-take-le, drop-drop}
use Rattle.std.specs.Prelude.{IfSome}
use Rattle.ac_io.specs.Outside.{ReadsFront, IsAtEnd, LosesNothing, LosesFewer}

-- what a second read adds behind what was there
pub reads_more : (o m p : Option (List ℕ)) (into mid post : List ℕ) (done n : ℕ) → done ≤ length into → n ≤ length mid → ReadsFront o m into done → ReadsFront m p mid n → ReadsFront o p (take done into ++ (mid ++ post)) (done + n)
reads_more None m p into mid post done n h k a b = tt
reads_more (Some bytes) m p into mid post done n h k a b =
    let b' = subst (λ (x : Option (List ℕ)). ReadsFront x p mid n) a.2 b in
    let len : done ≡ length (take done into) = sym (length-take-le done into h) in
    let front : take (done + n) (take done into ++ (mid ++ post)) ≡ take (done + n) bytes =
    ap (λ x. take (x + n) (take done into ++ (mid ++ post))) len
    ∙ (take-append-add (take done into) (mid ++ post) n
    ∙ (ap (λ x. take done into ++ x) (take-append-le n mid post k ∙ b'.1)
    ∙ (ap (λ x. x ++ take n (drop done bytes)) a.1 ∙ sym (take-add done n bytes)))) in
    (omega (arith, b'.0, length-drop done bytes), front, b'.2 ∙ ap (λ x. Some x) (drop-drop n done bytes))

pub at_end : (o m : Option (List ℕ)) (into : List ℕ) (done : ℕ) → ReadsFront o m into done → IsAtEnd m → IfSome o (λ bytes. done ≡ length bytes)
at_end None m into done a b = tt
at_end (Some bytes) m into done a b =
    let e : drop done bytes ≡ [] = subst IsAtEnd a.2 b in
    let n : length bytes - done ≡ 0 = sym (length-drop done bytes) ∙ ap length e in
    omega (arith, n, a.0)

-- a piece that failed: fewer bytes are lost than were asked for
pub loses_fewer : (o m p : Option (List ℕ)) (into : List ℕ) (done limit : ℕ) → done < limit → ReadsFront o m into done → LosesNothing m p → LosesFewer o p limit
loses_fewer None m p into done limit h a b = tt
loses_fewer (Some bytes) m None into done limit h a b = tt
loses_fewer (Some bytes) m (Some rest) into done limit h a b =
    let b' = subst (λ (x : Option (List ℕ)). LosesNothing x (Some rest)) a.2 b in
    (done, h, a.0, b')
