use Rattle.std.proofs.Common.{◌≡◌, ◌^◌, length}
use Rattle.ac_base.specs.Sigma.{Within}
use Rattle.ac_mdct.specs.Powers.{inverse_spun}
use Rattle.ac_base.specs.Sigma.{Lists}
use Rattle.ac_mdct.proofs.powers.spin_inverse.Given as goal

abbrev pub invariant-loop-b : goal.invariant-loop-b
invariant-loop-b l = (length l.out ≡ 256) × Lists l.b (inverse_spun l.u) l.out × Within (2 ^ 24) l.b l.out
