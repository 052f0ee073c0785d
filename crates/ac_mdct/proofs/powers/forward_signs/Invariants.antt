use Rattle.std.proofs.Common.{◌≡◌, ◌^◌, length}
use Rattle.ac_base.specs.Sigma.{Within}
use Rattle.ac_mdct.specs.Powers.{forward_turned}
use Rattle.ac_base.specs.Sigma.{Lists}
use Rattle.ac_mdct.proofs.powers.forward_signs.Given as goal

abbrev pub invariant-loop-i : goal.invariant-loop-i
invariant-loop-i l = (length l.out ≡ 256) × Lists l.i (forward_turned l.u) l.out × Within (2 ^ 24) l.i l.out

abbrev pub invariant-loop-j : goal.invariant-loop-j
invariant-loop-j l = (length l.out ≡ 256) × Lists l.j (forward_turned l.u) l.out × Within (2 ^ 24) l.j l.out
