use Rattle.std.proofs.Common.{◌≡◌, ◌^◌, length}
use Rattle.ac_base.specs.Sigma.{Within}
use Rattle.ac_energy.proofs.tests.fill_block.Given as goal

abbrev pub invariant-loop-k : goal.invariant-loop-k
invariant-loop-k l = (length l.row ≡ 256) × Within (2 ^ 23) l.k l.row
