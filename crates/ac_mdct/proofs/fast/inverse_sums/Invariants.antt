use Rattle.std.proofs.Common.{◌≡◌, ◌^◌, length}
use Rattle.ac_base.specs.Sigma.{Within}
use Rattle.ac_mdct.specs.Inverse.{inverse_sum}
use Rattle.ac_mdct.specs.Place.{place}
use Rattle.ac_base.specs.Sigma.{Lists}
use Rattle.ac_mdct.proofs.fast.inverse_sums.Given as goal

abbrev pub invariant-loop-i : goal.invariant-loop-i
invariant-loop-i l = (length l.out ≡ 256) × Lists l.i (λ i. inverse_sum l.coefs (place i)) l.out × Within (2 ^ 62) l.i l.out
