use Rattle.std.proofs.Common.{◌≡◌, ◌^◌, length}
use Rattle.ac_base.specs.Sigma.{Within}
use Rattle.ac_enc.proofs.transform.tests.fill_impulse.Given as goal

abbrev pub invariant-loop-n : goal.invariant-loop-n
invariant-loop-n l = (length l.pcm ≡ 1536) × Within (2 ^ 23) l.n l.pcm
