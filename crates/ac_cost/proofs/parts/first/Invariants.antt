use Rattle.std.proofs.Common.{◌≡◌, ◌≤◌, ◌*◌, ◌^◌, slice_index}
use Rattle.ac_base.specs.Sigma.{sum_below}
use Rattle.ac_cost.proofs.parts.first.Given as goal

abbrev pub invariant-loop-block : goal.invariant-loop-block
invariant-loop-block l = record { value : l.sum ≡ sum_below l.block (slice_index l.bits); bound : l.sum ≤ 2 ^ 16 * l.block }
