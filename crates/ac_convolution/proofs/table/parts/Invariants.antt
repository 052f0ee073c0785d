use Rattle.std.proofs.Common.{◌≡◌, length}
use Rattle.ac_base.specs.Sigma.{Lists}
use Rattle.ac_convolution.specs.Negacyclic.{items}
use Rattle.ac_convolution.specs.Transform.{kernel_parts}
use Rattle.ac_convolution.proofs.table.parts.Given as goal

abbrev pub invariant-loop-n : goal.invariant-loop-n
invariant-loop-n l = (length l.r ≡ 48) × Lists l.n (kernel_parts (items l.v)) l.r
