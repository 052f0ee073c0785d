use Rattle.std.proofs.Common.{◌≡◌, ℕ, ◌-◌, ◌<◌, ◌≤◌, length, slice_index}
use Rattle.ac_expo.specs.Greatest.{step_least}
use Rattle.ac_expo.proofs.lists.least_of_steps.Given as goal

abbrev pub invariant-loop-k : goal.invariant-loop-k
invariant-loop-k l =
    (length l.steps ≡ 256)
    × ((g : ℕ) → g < 256 → slice_index l.steps g ≡ step_least l.kind l.span (slice_index l.bins) (l.k - l.span.start) g)
    × ((g : ℕ) → slice_index l.steps g ≤ 24)
