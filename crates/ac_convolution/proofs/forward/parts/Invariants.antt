use Rattle.std.proofs.Common.{◌≡◌, ◌^◌, length}
use Rattle.ac_base.specs.Sigma.{Within, Lists}
use Rattle.ac_convolution.specs.Negacyclic.{items}
use Rattle.ac_convolution.specs.Transform.{parts_of}
use Rattle.ac_convolution.proofs.forward.parts.Given as goal

abbrev pub invariant-loop-n : goal.invariant-loop-n
invariant-loop-n l = (length l.r ≡ 24) × Lists l.n (parts_of (items l.x)) l.r × Within (2 ^ 29) l.n l.r

abbrev pub invariant-loop-m : goal.invariant-loop-m
invariant-loop-m l = (length l.r ≡ 24) × Lists l.m (parts_of (items l.x)) l.r × Within (2 ^ 29) l.m l.r
