use Rattle.std.proofs.Common.{◌≡◌, ◌+◌, ◌^◌, length}
use Rattle.ac_base.specs.Sigma.{Within, Lists}
use Rattle.ac_convolution.specs.Negacyclic.{wave, items}
use Rattle.ac_convolution.proofs.inverse.turned.Given as goal

abbrev pub invariant-loop-k : goal.invariant-loop-k
invariant-loop-k l = (length l.r ≡ 16) × Lists l.k (λ k. wave 16 (items l.v) (k + 8)) l.r × Within (2 ^ 55) l.k l.r

abbrev pub invariant-loop-m : goal.invariant-loop-m
invariant-loop-m l = (length l.r ≡ 16) × Lists l.m (λ k. wave 16 (items l.v) (k + 8)) l.r × Within (2 ^ 55) l.m l.r
