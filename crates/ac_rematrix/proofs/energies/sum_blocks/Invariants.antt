use Rattle.std.proofs.Common.{◌≡◌}
use Rattle.ac_energy.specs.Coefficients.{cell_of}
use Rattle.ac_rematrix.specs.Energies.{blocks_energies}
use Rattle.ac_rematrix.proofs.energies.sum_blocks.Given as goal

abbrev pub invariant-loop-b : goal.invariant-loop-b
invariant-loop-b l = l.sums ≡ blocks_energies (cell_of l.left) (cell_of l.right) l.start l.count l.b
