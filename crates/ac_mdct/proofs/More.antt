-- One entry more.
use Rattle.std.proofs.Common.{◌⊎◌, ◌^◌, ◌-◌, ◌≡◌, ◌≢◌, ℕ, ◌+◌, ◌<◌, ◌≤◌, ℤ, pos, neg_ℤ, ◌+ℤ◌, List, length, slice_index_or, unsigned_abs, arith, below_more, get_or-set_other, get_or-set_same, inl, inr, subst, sym}
use Rattle.std.proofs.lemmas.Bool.{cases_eq}
use Rattle.std.proofs.Math.ListN.{set}
use Rattle.std.proofs.lemmas.Int.{ints, int_min_is, int_max_is}
use Rattle.std.specs.Int.{int_max, int_min}
use Rattle.ac_base.specs.Floor.{floor_div}
use Rattle.ac_base.specs.Sigma.{Within}
use Rattle.ac_mdct.specs.Forward.{coefficient}
use Rattle.ac_base.specs.Sigma.{Lists}

pub lists_more : (f : ℕ → ℤ) (n : ℕ) (xs : List ℤ) (z : ℤ) → n < length xs → Lists n f xs → z ≡ f n → Lists (n + 1) f (set xs n z)
lists_more f n xs z room before here =
    below_more _ n
    (λ k h. let ne : k ≢ n = omega arith in rw get_or-set_other (before k h))
    (rw get_or-set_same here)

pub within_more : (m n : ℕ) (xs : List ℤ) (z : ℤ) → n < length xs → Within m n xs → unsigned_abs z ≤ m → Within m (n + 1) (set xs n z)
within_more m n xs z room before here =
    below_more _ n
    (λ k h. let ne : k ≢ n = omega arith in rw get_or-set_other (before k h))
    (rw get_or-set_same here)

-- one entry more from `from` on
pub listed_more : (from n : ℕ) (f : ℕ → ℤ) (xs : List ℤ) (z : ℤ) → n < length xs
    → ((k : ℕ) → from ≤ k → k < n → slice_index_or xs k (pos 0) ≡ f k) → z ≡ f n
    → (k : ℕ) → from ≤ k → k < n + 1 → slice_index_or (set xs n z) k (pos 0) ≡ f k
listed_more from n f xs z room before here k least below =
    elim (cases_eq k n) [
      | inl same ↦ let P : ℕ → Type 0 = λ j. slice_index_or (set xs n z) j (pos 0) ≡ f j in subst P (sym same) (rw get_or-set_same here)
      | inr apart ↦ rw get_or-set_other (before k least (omega arith))
    ]

-- what stays but for one entry more
pub stays_more : (from n : ℕ) (old xs : List ℤ) (z : ℤ) → from ≤ n
    → ((k : ℕ) → (k < from) ⊎ (n ≤ k) → slice_index_or xs k (pos 0) ≡ slice_index_or old k (pos 0))
    → (k : ℕ) → (k < from) ⊎ (n + 1 ≤ k) → slice_index_or (set xs n z) k (pos 0) ≡ slice_index_or old k (pos 0)
stays_more from n old xs z least before k (inl early) = let ne : k ≢ n = omega arith in rw get_or-set_other (before k (inl early))
stays_more from n old xs z least before k (inr late) = let ne : k ≢ n = omega arith in rw get_or-set_other (before k (inr (omega arith)))

-- one entry anew
pub within_set : (m n i : ℕ) (xs : List ℤ) (z : ℤ) → i < length xs → Within m n xs → unsigned_abs z ≤ m → Within m n (set xs i z)
within_set m n i xs z room before here k below =
    elim (cases_eq k i) [
      | inl same ↦ let P : ℕ → Type 0 = λ j. unsigned_abs (slice_index_or (set xs i z) j (pos 0)) ≤ m in subst P (sym same) (rw get_or-set_same here)
      | inr apart ↦ rw get_or-set_other (before k below)
    ]

clamped : (z : ℤ) → unsigned_abs (int_max (neg_ℤ (pos (2 ^ 24 - 1))) (int_min z (pos (2 ^ 24 - 1)))) ≤ 2 ^ 24 - 1
clamped z =
    let low = int_min_is z (pos (2 ^ 24 - 1)) in
    let high = int_max_is (neg_ℤ (pos (2 ^ 24 - 1))) (int_min z (pos (2 ^ 24 - 1))) in
    omega (arith, ints, low, high)

-- a coefficient is less than 2 ^ 24 in magnitude
pub coefficient_bound : (s : ℤ) → unsigned_abs (coefficient s) ≤ 2 ^ 24 - 1
unfolding coefficient
coefficient_bound s = clamped (floor_div (neg_ℤ s +ℤ pos (2 ^ 36)) (2 ^ 37))
