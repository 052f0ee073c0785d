use Rattle.std.proofs.Common.{◌≡◌, ◌^◌, ◌++◌, length}
use Rattle.ac_base.specs.Sigma.{Within}
use Rattle.ac_base.specs.Sigma.{Lists}
use Rattle.ac_mdct.specs.Forward.{windowed}
use Rattle.ac_mdct.proofs.windowing.windowed.Given as goal

abbrev pub invariant-loop-n : goal.invariant-loop-n
invariant-loop-n l = (length l.out ≡ 512) × Lists l.n (windowed (l.prev ++ l.now)) l.out × Within (2 ^ 23) l.n l.out

abbrev pub invariant-loop-m : goal.invariant-loop-m
invariant-loop-m l = (length l.out ≡ 512) × Lists l.m (windowed (l.prev ++ l.now)) l.out × Within (2 ^ 23) l.m l.out
