use Rattle.std.proofs.Common.{◌≡◌, ◌^◌, length}
use Rattle.ac_base.specs.Sigma.{Within, Lists}
use Rattle.ac_convolution.specs.Negacyclic.{wave, items}
use Rattle.ac_convolution.specs.Transform.{kernel_of}
use Rattle.ac_convolution.proofs.table.kernels.Given as goal

abbrev pub invariant-loop-t : goal.invariant-loop-t
invariant-loop-t l = (length l.r ≡ 24) × Lists l.t (kernel_of (wave 256 (items l.half)) l.e) l.r × Within (2 ^ 20) l.t l.r
