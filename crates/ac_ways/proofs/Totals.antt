-- Lower bounds where nothing is decided, as sums over the coded channels.
use Rattle.std.proofs.Common.{◌≡◌, ℕ, suc, ◌+◌, ◌-◌, ◌*◌, ◌<◌, true, [], ◌∷◌, slice_index, refl, ap, arith}
use Rattle.std.specs.Prelude.{nat_lt}
use Rattle.std.proofs.lemmas.Bool.{lt-ltb}
use Rattle.ac_base.specs.declared.shapes.Shape.{Shape}
use Rattle.ac_base.specs.Fit.{side_of}
use Rattle.ac_base.specs.Sigma.{sum_below}
use Rattle.ac_base.proofs.ByRuns.{sum_more, sum_none}
use Rattle.ac_expo.specs.Raw.{channels}
use Rattle.ac_cost.specs.Sixths.{part_of}
use Rattle.ac_bound.specs.Bounds.{lower_of, nothing}
use Rattle.ac_bound.proofs.Completing.{some-channel}
use Rattle.ac_bound.proofs.Sums.{sum_split}
use Rattle.ac_bound.proofs.Threes.{of_three}

pub total_is : (shape : Shape) (pot : ℕ → ℕ → ℕ → ℕ) (part side x : ℕ) → part < 3 → side ≡ part_of (side_of shape.acmod shape.lfe shape.couple) part → x ≡ 6 * side + sum_below (channels shape) (λ c. pot c part 0) → x ≡ lower_of shape pot nothing part
total_is shape pot part side x p is e =
    let n = channels shape in
    let f : ℕ → ℕ = λ c. pot c part 0 in
    let m = n - 0 - 1 in
    let some : 0 < n = some-channel shape in
    let t : nat_lt 0 n ≡ true = lt-ltb 0 n some in
    let whole : 0 + 1 + m ≡ n = omega (arith, some) in
    let all : sum_below (0 + 1 + m) f ≡ sum_below n f = ap (λ k. sum_below k f) whole in
    let split = sum_split 0 m f in
    let none = sum_none f in
    let spent : slice_index (0 ∷ 0 ∷ 0 ∷ []) part ≡ 0 = of_three (λ q. slice_index (0 ∷ 0 ∷ 0 ∷ []) q ≡ 0) refl refl refl part p in
    rw t (omega (arith, e, is, all, split, none, spent))

-- one channel after the other
pub total_none : (f : ℕ → ℕ) (side same x : ℕ) → same ≡ side → x ≡ 6 * same → x ≡ 6 * side + sum_below 0 f
total_none f side same x e so = omega (arith, e, so, sum_none f)

pub total_more : (f : ℕ → ℕ) (c side x y z : ℕ) → x ≡ 6 * side + sum_below c f → z ≡ f c → y ≡ x + z → y ≡ 6 * side + sum_below (c + 1) f
total_more f c side x y z so e more =
    let one : c + 1 ≡ suc c = omega arith in
    let next : sum_below (c + 1) f ≡ sum_below (suc c) f = ap (λ k. sum_below k f) one in
    omega (arith, so, e, more, next, sum_more c f)
