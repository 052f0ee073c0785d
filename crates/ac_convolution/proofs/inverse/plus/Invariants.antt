use Rattle.std.proofs.Common.{◌≡◌, ◌^◌, ◌+ℤ◌, length}
use Rattle.ac_base.specs.Sigma.{Within, Lists}
use Rattle.ac_convolution.specs.Negacyclic.{items}
use Rattle.ac_convolution.proofs.inverse.plus.Given as goal

abbrev pub invariant-loop-k : goal.invariant-loop-k
invariant-loop-k l = (length l.r ≡ 16) × Lists l.k (λ k. items l.u k +ℤ items l.v k) l.r × Within (2 ^ 56) l.k l.r
