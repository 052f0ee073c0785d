-- Rows filled from the front.
use Rattle.std.proofs.Common.{◌≡◌, ◌≢◌, ◌∙◌, ℕ, ◌+◌, ◌<◌, ◌≤◌, ◌^◌, ℤ, pos, List, length, slice_index_or, set, get_or-set_same, get_or-set_other, arith, inl, inr, refl, subst, sym, ap, replicate}
use Rattle.std.specs.Prelude.{unsigned_abs}
use Rattle.std.proofs.lemmas.Bool.{cases_eq, cases_lt}
use Rattle.std.proofs.lemmas.List.{get_or-replicate}
use Rattle.ac_base.specs.Sigma.{Lists, Within}
use Rattle.ac_noise.specs.State.{IsFilled}

-- what holds of the item that is written, and of the others, holds of each afterwards
after_set : (P : ℕ → ℤ → Type 0) (xs : List ℤ) (k : ℕ) (z : ℤ) → k < length xs → P k z → (j : ℕ)
    → (j ≢ k → P j (slice_index_or xs j (pos 0))) → P j (slice_index_or (set xs k z) j (pos 0))
after_set P xs k z room here j else =
    elim (cases_eq j k) [
      | inl same ↦
          let Q : ℕ → Type 0 = λ i. P i (slice_index_or (set xs k z) i (pos 0)) in
          subst Q (sym same) (subst (P k) (sym (get_or-set_same xs k z (pos 0) room)) here)
      | inr other ↦ subst (P j) (sym (get_or-set_other xs k j z (pos 0) other)) (else other)
    ]

pub filled_none : (f : ℕ → ℤ) (row : List ℤ) → IsFilled 0 f row row
filled_none f row = record { value = λ t below. absurd (omega arith); bound = λ t below. absurd (omega arith); rest = λ t above. refl }

pub filled_more : (k : ℕ) (f : ℕ → ℤ) (old row : List ℤ) (z : ℤ) → k < length row → IsFilled k f old row → z ≡ f k → unsigned_abs z ≤ 2 ^ 23
    → IsFilled (k + 1) f old (set row k z)
filled_more k f old row z room h is small = record {
  value = λ t below. after_set (λ i v. i < k + 1 → v ≡ f i) row k z room (λ b. is) t (λ other b. h.value t (omega arith)) below;
  bound = λ t below. after_set (λ i v. i < k + 1 → unsigned_abs v ≤ 2 ^ 23) row k z room (λ b. small) t (λ other b. h.bound t (omega arith)) below;
  rest = λ t above.
      after_set (λ i v. k + 1 ≤ i → v ≡ slice_index_or old i (pos 0)) row k z room (λ b. absurd (omega arith)) t (λ other b. h.rest t (omega arith)) above;
}

-- ---- a row that was silent

abbrev pub silence : List ℤ
silence = replicate 1536 (pos 0)

pub silent_at : (t : ℕ) → t < 1536 → slice_index_or silence t (pos 0) ≡ pos 0
silent_at t below = get_or-replicate 1536 t (pos 0) (pos 0) below

pub filled_lists : (n : ℕ) (f g : ℕ → ℤ) (row : List ℤ) → IsFilled n f silence row → ((t : ℕ) → t < n → f t ≡ g t)
    → ((t : ℕ) → t < 1536 → n ≤ t → g t ≡ pos 0) → Lists 1536 g row
filled_lists n f g row h alike silent t below =
    elim (cases_lt t n) [
      | inl inside ↦ h.value t inside ∙ alike t inside
      | inr past ↦ h.rest t past ∙ silent_at t below ∙ sym (silent t below past)
    ]

pub filled_within : (n : ℕ) (f : ℕ → ℤ) (row : List ℤ) → IsFilled n f silence row → Within (2 ^ 23) 1536 row
filled_within n f row h t below =
    elim (cases_lt t n) [
      | inl inside ↦ h.bound t inside
      | inr past ↦
          let none : unsigned_abs (slice_index_or row t (pos 0)) ≡ 0 = ap unsigned_abs (h.rest t past ∙ silent_at t below) in
          omega (arith, none)
    ]

pub silence_within : Within (2 ^ 23) 1536 silence
silence_within t below = let none : unsigned_abs (slice_index_or silence t (pos 0)) ≡ 0 = ap unsigned_abs (silent_at t below) in omega (arith, none)
