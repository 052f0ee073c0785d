-- What holds of the tables of the bit allocation, each computed over the whole table.
use Rattle.std.proofs.Common.{◌≡◌, ℕ, zero, suc, ◌<◌, ◌≤◌, ◌+◌, Bool, true, false, refl, arith, slice_index, length, [], ◌∷◌, ◌-◌, subst, sym}
use Rattle.std.specs.Prelude.{◌&&◌, nat_le, List, if◌then◌else◌, ◌==◌}
use Rattle.std.proofs.lemmas.List.{get_or_past}
use Rattle.std.proofs.lemmas.Bool.{leb-true, and_parts}
use Rattle.ac_base.proofs.Tests.{all_below-at}
use Rattle.ac_base.specs.Allocation.{latab_list, bndtab_list, masktab_list, hth_48, hth_44, hth_32, hth_list, baptab_list}

pub latab_small : (i : ℕ) → i < 256 → slice_index latab_list i ≤ 64
latab_small i below = leb-true _ _ (all_below-at 256 (λ k. nat_le (slice_index latab_list k) 64) refl i below)

pub starts_small : (b : ℕ) → b < 51 → slice_index bndtab_list b ≤ 253
starts_small b below = leb-true _ _ (all_below-at 51 (λ k. nat_le (slice_index bndtab_list k) 253) refl b below)

pub bands_small : (k : ℕ) → k < 253 → slice_index masktab_list k ≤ 49
bands_small k below = leb-true _ _ (all_below-at 253 (λ k. nat_le (slice_index masktab_list k) 49) refl k below)

pub band_starts_before : (k : ℕ) → k < 253 → slice_index bndtab_list (slice_index masktab_list k) ≤ k
band_starts_before k below =
    leb-true _ _ (all_below-at 253 (λ k. nat_le (slice_index bndtab_list (slice_index masktab_list k)) k) refl k below)

pub band_ends_after : (k : ℕ) → k < 253 → k + 1 ≤ slice_index bndtab_list (slice_index masktab_list k + 1)
band_ends_after k below =
    leb-true _ _ (all_below-at 253 (λ k. nat_le (k + 1) (slice_index bndtab_list (slice_index masktab_list k + 1))) refl k below)

pub baps_small : (k : ℕ) → k < 64 → slice_index baptab_list k ≤ 15
baps_small k below = leb-true _ _ (all_below-at 64 (λ k. nat_le (slice_index baptab_list k) 15) refl k below)

small_48 : (k : ℕ) → k < 50 → slice_index hth_48 k ≤ 0x840
small_48 k below = leb-true _ _ (all_below-at 50 (λ k. nat_le (slice_index hth_48 k) 0x840) refl k below)

small_44 : (k : ℕ) → k < 50 → slice_index hth_44 k ≤ 0x840
small_44 k below = leb-true _ _ (all_below-at 50 (λ k. nat_le (slice_index hth_44 k) 0x840) refl k below)

small_32 : (k : ℕ) → k < 50 → slice_index hth_32 k ≤ 0x840
small_32 k below = leb-true _ _ (all_below-at 50 (λ k. nat_le (slice_index hth_32 k) 0x840) refl k below)

-- of two lists that are within a bound at k, either is
chosen : (b : Bool) (xs ys : List ℕ) (k m : ℕ) → slice_index xs k ≤ m → slice_index ys k ≤ m → slice_index (if b then xs else ys) k ≤ m
chosen true xs ys k m p q = p
chosen false xs ys k m p q = q

pub hearing_small : (fscod k : ℕ) → k < 50 → slice_index (hth_list fscod) k ≤ 0x840
hearing_small fscod k below =
    chosen (fscod == 0) hth_48 (if fscod == 1 then hth_44 else hth_32) k 0x840 (small_48 k below) (chosen (fscod == 1) hth_44 hth_32 k 0x840 (small_44 k below) (small_32 k below))

-- a list that rises, by a test that is computed over the whole list
abbrev rises : List ℕ → Bool
rises [] = true
rises (x ∷ []) = true
rises (x ∷ (y ∷ ys)) = nat_le x y && rises (y ∷ ys)

step_rises : (xs : List ℕ) (i : ℕ) → rises xs ≡ true → suc i < length xs → slice_index xs i ≤ slice_index xs (suc i)
step_rises [] i h l = absurd (omega arith)
step_rises (x ∷ []) i h l = absurd (omega arith)
step_rises (x ∷ (y ∷ ys)) zero h l = leb-true x y (and_parts (nat_le x y) (rises (y ∷ ys)) h).0
step_rises (x ∷ (y ∷ ys)) (suc i) h l =
    step_rises (y ∷ ys) i (and_parts (nat_le x y) (rises (y ∷ ys)) h).1 (omega arith)

far_rises : (xs : List ℕ) (i n : ℕ) → rises xs ≡ true → i + n < length xs → slice_index xs i ≤ slice_index xs (i + n)
far_rises xs i zero h l = let e : i + 0 ≡ i = omega arith in subst (λ x. slice_index xs i ≤ slice_index xs x) (sym e) (omega arith)
far_rises xs i (suc n) h l =
    let e : i + suc n ≡ suc (i + n) = omega arith in
    subst (λ x. slice_index xs i ≤ slice_index xs x) (sym e) (omega (arith, far_rises xs i n h (omega arith), step_rises xs (i + n) h (omega arith)))

pub all_rises : (xs : List ℕ) (i j : ℕ) → rises xs ≡ true → i ≤ j → j < length xs → slice_index xs i ≤ slice_index xs j
all_rises xs i j h l m =
    let e : i + (j - i) ≡ j = omega arith in
    subst (λ x. slice_index xs i ≤ slice_index xs x) e (far_rises xs i (j - i) h (omega arith))

pub starts_rise : (i j : ℕ) → i ≤ j → j < 51 → slice_index bndtab_list i ≤ slice_index bndtab_list j
starts_rise i j l m = all_rises bndtab_list i j refl l m

pub baps_rise : (i j : ℕ) → i ≤ j → j < 64 → slice_index baptab_list i ≤ slice_index baptab_list j
baps_rise i j l m = all_rises baptab_list i j refl l m

-- a band has at most 24 bins
pub starts_near : (b : ℕ) → b < 50 → slice_index bndtab_list (b + 1) ≤ slice_index bndtab_list b + 24
starts_near b below =
    leb-true _ _ (all_below-at 50 (λ k. nat_le (slice_index bndtab_list (k + 1)) (slice_index bndtab_list k + 24)) refl b below)

pub starts_grow : (b : ℕ) → b < 50 → slice_index bndtab_list b + 1 ≤ slice_index bndtab_list (b + 1)
starts_grow b below =
    leb-true _ _ (all_below-at 50 (λ k. nat_le (slice_index bndtab_list k + 1) (slice_index bndtab_list (k + 1))) refl b below)

-- past the table there is nothing
pub starts_past : (b : ℕ) → 51 ≤ b → slice_index bndtab_list b ≡ 0
starts_past b l = get_or_past bndtab_list b 0 l
