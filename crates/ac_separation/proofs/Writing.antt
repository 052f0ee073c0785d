-- The bins of a row that are written: one more, one subband more.
use Rattle.std.proofs.Common.{◌≡◌, ℕ, ◌+◌, ◌-◌, ◌*◌, ◌/◌, ◌<◌, ◌≤◌, ℤ, pos, List, length, set, arith, inl, inr, ⊎_elim, sym, ap, ap₂, ◌∙◌, refl, subst, ◌^◌, ◌+ℤ◌, ◌*ℤ◌, neg_ℤ, Bool}
use Rattle.std.specs.Prelude.{◌⊎◌}
use Rattle.std.proofs.lemmas.Bool.{cases_lt}
use Rattle.ac_rematrix.proofs.Halved.{after_set}
use Rattle.ac_base.specs.Floor.{floor_div}
use Rattle.ac_rows.specs.Blocks.{Block}
use Rattle.ac_separation.specs.declared.scale.Scale.{Scale}
use Rattle.ac_separation.specs.Separation.{clamped, turned, band_of, factor_in, master_in, is_turned, separated}
use Rattle.ac_separation.specs.Written.{at, scaled_by, separated_at, IsWritten}

pub written_none : (start end : ℕ) (g old : ℕ → ℤ) → end ≤ start → IsWritten start end g old old
written_none start end g old none = record { done = λ k above below. absurd (omega arith); rest = λ k out. refl }

-- one bin more
pub written_more : (start k : ℕ) (g old : ℕ → ℤ) (row : List ℤ) (z : ℤ) → start ≤ k → k < length row → IsWritten start k g old (at row)
    → z ≡ g k → IsWritten start (k + 1) g old (at (set row k z))
written_more start k g old row z from room before here =
    let apart : (k < start) ⊎ (k + 1 ≤ k) → ⊥ = λ out. ⊎_elim (λ (h : k < start). omega arith) (λ (h : k + 1 ≤ k). omega arith) out in
    let wider : (j : ℕ) → (j < start) ⊎ (k + 1 ≤ j) → (j < start) ⊎ (k ≤ j) = λ j out. ⊎_elim (λ (h : j < start). inl h) (λ (h : k + 1 ≤ j). inr (omega arith)) out in
    record {
      done = λ j above below. after_set (λ i v. v ≡ g i) (pos 0) row k z room here j (λ other. before.done j above (omega arith));
      rest = λ j out. after_set (λ i v. (i < start) ⊎ (k + 1 ≤ i) → v ≡ old i) (pos 0) row k z room (λ o. absurd (apart o)) j (λ other o. before.rest j (wider j o)) out;
    }

-- some bins more
pub written_on : (start mid end : ℕ) (g old between new : ℕ → ℤ) → start ≤ mid → mid ≤ end → IsWritten start mid g old between
    → IsWritten mid end g between new → IsWritten start end g old new
written_on start mid end g old between new p q before more = record {
  done = λ k above below. elim (cases_lt k mid) [
    | inl low ↦ more.rest k (inl low) ∙ before.done k above low
    | inr high ↦ more.done k high below
  ];
  rest = λ k out.
      more.rest k (⊎_elim (λ (h : k < start). inl (omega arith)) (λ (h : end ≤ k). inr h) out)
      ∙ before.rest k (⊎_elim (λ (h : k < start). inl h) (λ (h : end ≤ k). inr (omega arith)) out);
}

-- the same values told otherwise
pub written_as : (start end : ℕ) (g h old new : ℕ → ℤ) → ((k : ℕ) → start ≤ k → k < end → g k ≡ h k) → IsWritten start end g old new
    → IsWritten start end h old new
written_as start end g h old new same w = record { done = λ k above below. w.done k above below ∙ same k above below; rest = w.rest }

-- up to a bin that is as far, or before them all
pub written_to : (start k end : ℕ) (g old new : ℕ → ℤ) → end ≤ k → ((k ≤ end) ⊎ (k ≤ start)) → IsWritten start k g old new → IsWritten start end g old new
written_to start k end g old new far near w = record {
  done = λ j above below. w.done j above (omega arith);
  rest = λ j out. w.rest j (⊎_elim (λ (n : k ≤ end). ⊎_elim (λ (h : j < start). inl h) (λ (h : end ≤ j). inr (omega arith)) out)
      (λ (n : k ≤ start). elim (cases_lt j start) [ inl low ↦ inl low | inr high ↦ inr (omega arith) ]) near);
}

-- the subband of a bin
subband_at : (start n k : ℕ) → start + 12 * n ≤ k → k < start + 12 * n + 12 → (k - start) / 12 ≡ n
subband_at start n k above below = omega arith

-- a value by the scale of a band
scale_is : (f : Block) (c band : ℕ) (s : Scale) (x : ℤ) → s.factor ≡ factor_in f c band → s.shift ≡ 16 + 3 * master_in f c
    → s.turned ≡ is_turned f c band → scaled_by s x ≡ separated f c band x
scale_is f c band s x p q r =
    ap (λ (t : Bool). clamped (turned t (floor_div (x *ℤ pos s.factor) (2 ^ s.shift)))) r
    ∙ ap (λ (v : ℕ). clamped (turned (is_turned f c band) (floor_div (x *ℤ pos v) (2 ^ s.shift)))) p
    ∙ ap (λ (n : ℕ). clamped (turned (is_turned f c band) (floor_div (x *ℤ pos (factor_in f c band)) (2 ^ n)))) q

-- one subband more
pub subband_more : (f : Block) (c band n start : ℕ) (s : Scale) (x old between new : ℕ → ℤ) → band ≡ band_of f n
    → s.factor ≡ factor_in f c band → s.shift ≡ 16 + 3 * master_in f c → s.turned ≡ is_turned f c band
    → IsWritten start (start + 12 * n) (separated_at f c start x) old between
    → IsWritten (start + 12 * n) (start + 12 * n + 12) (λ k. scaled_by s (x k)) between new
    → IsWritten start (start + 12 * (n + 1)) (separated_at f c start x) old new
subband_more f c band n start s x old between new is p q r before more =
    let on : start + 12 * n + 12 ≡ start + 12 * (n + 1) = omega arith in
    let same : (k : ℕ) → start + 12 * n ≤ k → k < start + 12 * n + 12 → scaled_by s (x k) ≡ separated_at f c start x k =
    λ k above below. scale_is f c band s (x k) p q r ∙ ap (λ (b : ℕ). separated f c b (x k)) (is ∙ ap (band_of f) (sym (subband_at start n k above below))) in
    subst (λ (e : ℕ). IsWritten start e (separated_at f c start x) old new) on
    (written_on start (start + 12 * n) (start + 12 * n + 12) (separated_at f c start x) old between new (omega arith) (omega arith) before
    (written_as (start + 12 * n) (start + 12 * n + 12) (λ k. scaled_by s (x k)) (separated_at f c start x) between new same more))

-- one bin of two rows more
module _ (start k : ℕ) (l r left right : List ℤ) (a b : ℤ) (from : start ≤ k) (room_l : k < length left) (room_r : k < length right) where
  abbrev plus : ℕ → ℤ
  plus j = clamped (at l j +ℤ at r j)

  abbrev less : ℕ → ℤ
  less j = clamped (at l j +ℤ neg_ℤ (at r j))

  module _ (before_l : IsWritten start k plus (at l) (at left)) (before_r : IsWritten start k less (at r) (at right)) where
    old_l : at left k ≡ at l k
    old_l = before_l.rest k (inr (omega arith))

    old_r : at right k ≡ at r k
    old_r = before_r.rest k (inr (omega arith))

    pub sum_more : a ≡ clamped (at left k +ℤ at right k) → IsWritten start (k + 1) plus (at l) (at (set left k a))
    sum_more is = written_more start k plus (at l) left a from room_l before_l (is ∙ ap₂ (λ (x y : ℤ). clamped (x +ℤ y)) old_l old_r)

    pub difference_more : b ≡ clamped (at left k +ℤ neg_ℤ (at right k)) → IsWritten start (k + 1) less (at r) (at (set right k b))
    difference_more is = written_more start k less (at r) right b from room_r before_r (is ∙ ap₂ (λ (x y : ℤ). clamped (x +ℤ neg_ℤ y)) old_l old_r)
