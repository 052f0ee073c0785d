use Rattle.std.proofs.Common.{◌≡◌, ◌^◌, length}
use Rattle.ac_base.specs.Sigma.{Within, Lists}
use Rattle.ac_convolution.specs.Negacyclic.{items}
use Rattle.ac_convolution.specs.Transform.{joined_of}
use Rattle.ac_convolution.proofs.product.product.Given as goal

abbrev pub invariant-loop-k : goal.invariant-loop-k
invariant-loop-k l = (length l.r ≡ 16) × Lists l.k (joined_of (items l.parts) (items l.kernel)) l.r × Within (2 ^ 54) l.k l.r

abbrev pub invariant-loop-m : goal.invariant-loop-m
invariant-loop-m l = (length l.r ≡ 16) × Lists l.m (joined_of (items l.parts) (items l.kernel)) l.r × Within (2 ^ 54) l.m l.r
