-- Rows of an array that are written one behind the other.
use Rattle.std.proofs.Common.{◌≡◌, ℕ, ◌+◌, ◌<◌, ◌≤◌, List, [], length, slice_index_or, slice_set, sym, subst, inl, inr, arith}
use Rattle.std.proofs.lemmas.Bool.{cases_eq}
use Rattle.std.proofs.lemmas.List.{get_or-set_same, get_or-set_other}

pub row_put : {A : Type 0} (P : ℕ → List A → Type 0) (rows : List (List A)) (at b : ℕ) (row : List A) → at ≡ b → b < length rows → ((a : ℕ) → a < b → P a (slice_index_or rows a [])) → P b row
    → (a : ℕ) → a ≤ b → P a (slice_index_or (slice_set rows at row) a [])
row_put P rows at b row e room before here a le =
    subst (λ (i : ℕ). P a (slice_index_or (slice_set rows i row) a [])) (sym e)
    (elim (cases_eq a b) [
      | inl same ↦
          subst (λ (i : ℕ). P i (slice_index_or (slice_set rows b row) i [])) (sym same)
          (subst (P b) (sym (get_or-set_same rows b row [] room)) here)
      | inr ne ↦ subst (P a) (sym (get_or-set_other rows b a row [] ne)) (before a (omega (arith, le, ne)))
    ])

pub row_after : {A : Type 0} (P : ℕ → List A → Type 0) (rows : List (List A)) (at b : ℕ) (row : List A) → at ≡ b → b < length rows → ((a : ℕ) → a < b → P a (slice_index_or rows a [])) → P b row
    → (a : ℕ) → a < b + 1 → P a (slice_index_or (slice_set rows at row) a [])
row_after P rows at b row e room before here a lt = row_put P rows at b row e room before here a (omega (arith, lt))
