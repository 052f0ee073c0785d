use Rattle.std.proofs.Common.{◌≡◌, ◌<◌, ◌^◌, ℕ, ℤ, pos, List, [], get_or, unsigned_abs, arith, ap, sym, ◌∙◌, inl, inr, subst, refl}
use Rattle.std.specs.Prelude.{replicate}
use Rattle.std.proofs.lemmas.Bool.{cases_lt}
use Rattle.std.proofs.lemmas.List.{get_or-replicate, get_or_past, length-replicate}
use Rattle.ac_expo.proofs.raw.tests.raw_exponents_of_silence.Goals as goal

within : {A : Type 0} (n i : ℕ) (a d : A) (P : A → Type 0) → P a → P d → P (get_or (replicate n a) i d)
within n i a d P here past =
    elim (cases_lt i n) [
      | inl l ↦ subst P (sym (get_or-replicate n i a d l)) here
      | inr l ↦ subst P (sym (get_or_past (replicate n a) i d (omega (arith, length-replicate n a)))) past
    ]

zero : (c b k : ℕ) → get_or (get_or (get_or (replicate 7 (replicate 6 (replicate 256 (pos 0)))) c []) b []) k (pos 0) ≡ pos 0
zero c b k =
    let row : List ℤ = replicate 256 (pos 0) in
    let rows : List (List ℤ) = replicate 6 row in
    let P : ℤ → Type 0 = λ x. x ≡ pos 0 in
    let Q : List ℤ → Type 0 = λ xs. get_or xs k (pos 0) ≡ pos 0 in
    let R : List (List ℤ) → Type 0 = λ xs. get_or (get_or xs b []) k (pos 0) ≡ pos 0 in
    within 7 c rows [] R (within 6 b row [] Q (within 256 k (pos 0) (pos 0) P refl refl) refl) refl

pub of-raw-requires : goal.of-raw-requires
of-raw-requires g c = λ ch _ b _ k _.
    let at : List (List (List ℤ)) → ℤ = λ xs. get_or (get_or (get_or xs ch []) b []) k (pos 0) in
    let e : at c.zeros.result.c ≡ pos 0 = ap at c.zeros.ensures ∙ zero ch b k in
    let P : ℤ → Type 0 = λ x. unsigned_abs x < 2 ^ 24 in
    subst P (sym e) (omega arith)
