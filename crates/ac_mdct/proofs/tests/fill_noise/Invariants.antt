use Rattle.std.proofs.Common.{◌≡◌, ◌^◌, length}
use Rattle.ac_base.specs.Sigma.{Within}
use Rattle.ac_mdct.proofs.tests.fill_noise.Given as goal

abbrev pub invariant-loop-i : goal.invariant-loop-i
invariant-loop-i l = (length l.out ≡ 256) × Within (2 ^ 23) l.i l.out
