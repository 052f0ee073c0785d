use Rattle.std.proofs.Common.{◌≡◌, length}
use Rattle.ac_base.specs.Sigma.{Lists}
use Rattle.ac_convolution.specs.Negacyclic.{items}
use Rattle.ac_convolution.specs.Transform.{low_of}
use Rattle.ac_convolution.proofs.table.lows.Given as goal

abbrev pub invariant-loop-i : goal.invariant-loop-i
invariant-loop-i l = (length l.r ≡ 256) × Lists l.i (λ i. low_of (items l.h i)) l.r
