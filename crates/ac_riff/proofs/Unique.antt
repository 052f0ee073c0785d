-- A list is cut into chunks in one way.
use Rattle.std.proofs.Common.{◌≡◌, ℕ, suc, ◌+◌, ◌≤◌, ◌<◌, List, [], ◌∷◌, ◌++◌, length, take, drop, sym, ap, ◌∙◌, arith, length-append, append_assoc}
use Rattle.std.specs.Prelude.{All}
use Rattle.std.specs.List.{concat}
use Rattle.std.proofs.lemmas.List.{take-append-le, take-append-drop, length-take-le, append_cancel_left}
use Rattle.std.proofs.Math.Seq.{take-append_seam}
use Rattle.ac_riff.specs.Form.{size_of, whole_length, IsChunk, IsPassedBefore, IsOpen}
use Rattle.ac_riff.proofs.Chunks.{size_take}

pub least_long : (c : List ℕ) → IsChunk c → 8 ≤ length c
least_long c h = omega (arith, h.long)

pub front_size : (c x : List ℕ) → IsChunk c → size_of (c ++ x) ≡ size_of c
front_size c x h =
    let long = least_long c h in
    sym (size_take 8 (c ++ x) (omega arith)) ∙ (ap size_of (take-append-le 8 c x long) ∙ size_take 8 c (omega arith))

pub same_chunk : (c d x y : List ℕ) → IsChunk c → IsChunk d → c ++ x ≡ d ++ y → c ≡ d
same_chunk c d x y h k e =
    let size : size_of c ≡ size_of d = sym (front_size c x h) ∙ (ap size_of e ∙ front_size d y k) in
    let long : length c ≡ length d = h.long ∙ (ap whole_length size ∙ sym k.long) in
    sym (take-append_seam c x) ∙ (ap (take (length c)) e ∙ (ap (λ n. take n (d ++ y)) long ∙ take-append_seam d y))

tail_all : (P : List ℕ → Type 0) (c : List ℕ) (cs : List (List ℕ)) → All P (c ∷ cs) → All P cs
tail_all P c cs a = λ k d h. a (suc k) d (omega arith)

head_all : (P : List ℕ → Type 0) (c : List ℕ) (cs : List (List ℕ)) → All P (c ∷ cs) → P c
head_all P c cs a = a 0 [] (omega arith)

-- the chunk where the shorter of two fronts ends
pub next_chunk : (P : List ℕ → Type 0) → ((c : List ℕ) → P c → IsChunk c) → (cs ds : List (List ℕ)) (r s : List ℕ) → All P cs → All P ds → concat cs ++ r ≡ concat ds ++ s
    → length (concat cs) < length (concat ds) → (d : List ℕ) × P d × ((x : List ℕ) × (r ≡ d ++ x))
next_chunk P whole [] [] r s a b e h = absurd (omega arith)
next_chunk P whole [] (d ∷ ds) r s a b e h = (d, head_all P d ds b, (concat ds ++ s, e ∙ append_assoc d (concat ds) s))
next_chunk P whole (c ∷ cs) [] r s a b e h = absurd (omega arith)
next_chunk P whole (c ∷ cs) (d ∷ ds) r s a b e h =
    let e' : c ++ (concat cs ++ r) ≡ d ++ (concat ds ++ s) = sym (append_assoc c (concat cs) r) ∙ (e ∙ append_assoc d (concat ds) s) in
    let same : c ≡ d = same_chunk c d (concat cs ++ r) (concat ds ++ s) (whole c (head_all P c cs a)) (whole d (head_all P d ds b)) e' in
    let rest : concat cs ++ r ≡ concat ds ++ s = append_cancel_left d (concat cs ++ r) (concat ds ++ s) (ap (λ l. l ++ (concat cs ++ r)) (sym same) ∙ e') in
    let long : length (concat cs) < length (concat ds) = omega (arith, h, length-append c (concat cs), length-append d (concat ds), ap length same) in
    next_chunk P whole cs ds r s (tail_all P c cs a) (tail_all P d ds b) rest long

-- where two places are open, a chunk that is passed over begins at the earlier one
pub record IsPassedAt (bytes : List ℕ) (place : ℕ) : Type 0 where
  pub chunk : List ℕ
  pub passed : IsPassedBefore chunk
  pub rest : List ℕ
  pub same : drop place bytes ≡ chunk ++ rest

open_parts : (bytes : List ℕ) (place : ℕ) (o : IsOpen bytes place) → bytes ≡ take 12 bytes ++ (concat o.passed ++ drop place bytes)
open_parts bytes place o = sym (take-append-drop place bytes) ∙ (ap (λ l. l ++ drop place bytes) o.same ∙ append_assoc (take 12 bytes) (concat o.passed) (drop place bytes))

open_long : (bytes : List ℕ) (place : ℕ) (o : IsOpen bytes place) → place ≡ 12 + length (concat o.passed)
open_long bytes place o =
    let a : length (take place bytes) ≡ place = length-take-le place bytes o.within in
    let b : length (take 12 bytes) ≡ 12 = length-take-le 12 bytes o.riff.long in
    omega (arith, a, b, ap length o.same, length-append (take 12 bytes) (concat o.passed))

pub open_before : (bytes : List ℕ) (p q : ℕ) → IsOpen bytes p → IsOpen bytes q → p < q → IsPassedAt bytes p
open_before bytes p q o u h =
    let e : concat o.passed ++ drop p bytes ≡ concat u.passed ++ drop q bytes =
    append_cancel_left (take 12 bytes) (concat o.passed ++ drop p bytes) (concat u.passed ++ drop q bytes) (sym (open_parts bytes p o) ∙ open_parts bytes q u) in
    let long : length (concat o.passed) < length (concat u.passed) = omega (arith, open_long bytes p o, open_long bytes q u, h) in
    let n = next_chunk IsPassedBefore (λ c k. k.whole) o.passed u.passed (drop p bytes) (drop q bytes) o.before u.before e long in
    record { chunk = n.0; passed = n.1; rest = n.2.0; same = n.2.1 }
