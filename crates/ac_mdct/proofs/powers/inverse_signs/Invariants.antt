use Rattle.std.proofs.Common.{◌≡◌, ◌^◌, length}
use Rattle.ac_base.specs.Sigma.{Within}
use Rattle.ac_mdct.specs.Powers.{inverse_turned}
use Rattle.ac_base.specs.Sigma.{Lists}
use Rattle.ac_mdct.proofs.powers.inverse_signs.Given as goal

abbrev pub invariant-loop-k : goal.invariant-loop-k
invariant-loop-k l = (length l.out ≡ 256) × Lists l.k (inverse_turned l.u) l.out × Within (2 ^ 24) l.k l.out
