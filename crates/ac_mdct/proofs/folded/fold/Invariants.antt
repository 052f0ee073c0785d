use Rattle.std.proofs.Common.{◌≡◌, ◌^◌, length}
use Rattle.ac_base.specs.Sigma.{Within}
use Rattle.ac_mdct.specs.Fold.{folded}
use Rattle.ac_base.specs.Sigma.{Lists}
use Rattle.ac_mdct.proofs.folded.fold.Given as goal

abbrev pub invariant-loop-i : goal.invariant-loop-i
invariant-loop-i l = (length l.out ≡ 256) × Lists l.i (folded l.v) l.out × Within (2 ^ 24) l.i l.out
