use Rattle.std.proofs.Common.{◌≡◌, ◌≤◌, ◌*◌, ◌^◌}
use Rattle.ac_cost.specs.Sixths.{in_blocks}
use Rattle.ac_cost.proofs.blocks.in_blocks.Given as goal

abbrev pub invariant-loop-b : goal.invariant-loop-b
invariant-loop-b l = record { value : l.sum ≡ in_blocks l.b l.run l.cost; bound : l.sum ≤ 2 ^ 16 * l.b }
