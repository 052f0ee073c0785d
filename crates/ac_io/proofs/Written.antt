-- What writes in turn add.
use Rattle.std.proofs.Common.{ℕ, ◌+◌, ◌-◌, ◌≤◌, ◌≡◌, length, List, [], ◌++◌, take, drop, append_assoc, append-nil, Option, Some, None, ap, ◌∙◌}
use Rattle.std.proofs.Math.Seq.{take-add}
use Rattle.std.proofs.lemmas.List.{take-take}
use Rattle.ac_io.specs.Outside.{Adds, AddsFront}

-- two pieces, one after the other
pub adds_both : (a b c : Option (List ℕ)) (xs ys : List ℕ) → Adds a b xs → Adds b c ys → Adds a c (xs ++ ys)
adds_both None b c xs ys p q = tt
adds_both (Some held) None c xs ys p q = cc
adds_both (Some held) (Some bs) c xs ys p q =
    let same : Some bs ≡ Some (held ++ xs) = p in
    let more : c ≡ Some (bs ++ ys) = q in
    let e : bs ≡ held ++ xs = cc in
    more ∙ ap (λ b. Some (b ++ ys)) e ∙ ap Some (append_assoc held xs ys)

-- a write of n bytes behind those done
pub adds_more : (a b c : Option (List ℕ)) (piece : List ℕ) (done n : ℕ) → Adds a b (take done piece) → n ≤ length piece - done → Adds b c (take n (take (length piece - done) (drop done piece))) → Adds a c (take (done + n) piece)
adds_more a b c piece done n p fits q =
    let short = take-take n (length piece - done) (drop done piece) fits in
    let q' = rw short at q in
    rw take-add (adds_both a b c (take done piece) (take n (drop done piece)) p q')

-- a write that failed behind those done
pub adds_front : (a b c : Option (List ℕ)) (piece : List ℕ) (done : ℕ) → Adds a b (take done piece) → Adds b c [] → AddsFront a c piece
adds_front None b c piece done p q = tt
adds_front (Some held) b c piece done p q =
    let both : c ≡ Some (held ++ (take done piece ++ [])) = adds_both (Some held) b c (take done piece) [] p q in
    (done, both ∙ ap (λ x. Some (held ++ x)) (append-nil (take done piece)))
