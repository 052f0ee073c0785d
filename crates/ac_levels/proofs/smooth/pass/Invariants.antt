use Rattle.std.proofs.Common.{◌≡◌, ℕ, ◌+◌, ◌-◌, ◌*◌, ◌<◌, ◌≤◌, max, slice_index}
use Rattle.ac_levels.specs.Reach.{IsPlace}
use Rattle.ac_levels.proofs.smooth.pass.Given as goal

abbrev pub invariant-loop-p : goal.invariant-loop-p
invariant-loop-p l =
    ((p : ℕ) → 16 ≤ p → p < l.p → slice_index l.new p ≡ max (slice_index l.old p) (max (slice_index l.old (p - l.d)) (slice_index l.old (p + l.d)) - 16 * l.d))
    × ((p : ℕ) → (IsPlace l.n p → ⊥) → slice_index l.new p ≡ slice_index l.fn.new p)
