use Rattle.std.proofs.Common.{◌≡◌, ℕ, ◌-◌, slice_index}
use Rattle.ac_base.specs.Spans.{IsIn}
use Rattle.ac_expo.specs.Greatest.{bin_least}
use Rattle.ac_expo.proofs.lists.least_of_blocks.Given as goal

abbrev pub invariant-loop-b : goal.invariant-loop-b
invariant-loop-b l = (k : ℕ) → IsIn l.span k → slice_index l.bins k ≡ bin_least l.raw l.run.from (l.b - l.run.from) k
