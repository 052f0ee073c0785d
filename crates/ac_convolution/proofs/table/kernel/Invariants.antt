use Rattle.std.proofs.Common.{◌≡◌, ◌+◌, ◌*◌}
use Rattle.ac_base.specs.Sigma.{sigma}
use Rattle.ac_convolution.specs.Negacyclic.{wave, items}
use Rattle.ac_convolution.proofs.table.kernel.Given as goal

abbrev pub invariant-loop-j : goal.invariant-loop-j
invariant-loop-j l = l.total ≡ sigma l.j (λ j. wave 256 (items l.half) (16 * (l.t + l.e * j) + j))
