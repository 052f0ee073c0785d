use Rattle.std.proofs.Common.{◌≡◌, ℕ, ◌-◌, ◌*◌, ◌<◌, ◌≤◌, slice_index}
use Rattle.ac_base.specs.Spans.{IsIn}
use Rattle.ac_expo.specs.Steps.{step_of}
use Rattle.ac_reading.proofs.exponents.write.Given as goal

abbrev pub invariant-loop-k : goal.invariant-loop-k
invariant-loop-k l =
    ((k : ℕ) → l.span.start ≤ k → k < l.k → slice_index l.out k ≡ slice_index l.sums (step_of l.kind l.span k) - 2 * step_of l.kind l.span k)
    × ((k : ℕ) → (IsIn l.span k → ⊥) → slice_index l.out k ≡ slice_index l.fn.out k)
