use Rattle.std.proofs.Common.{◌≡◌, ◌^◌, ◌+◌, ◌*◌, length}
use Rattle.ac_base.specs.Sigma.{Within, Lists}
use Rattle.ac_enc.specs.Frame.{joined}
use Rattle.ac_enc.proofs.transform.places.Given as goal

abbrev pub invariant-loop-n : goal.invariant-loop-n
invariant-loop-n l = (length l.block ≡ 256) × Lists l.n (λ n. joined l.last l.pcm (256 * l.b + n)) l.block × Within (2 ^ 23) l.n l.block
