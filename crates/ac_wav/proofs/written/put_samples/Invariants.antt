use Rattle.std.proofs.Common.{◌≡◌, ◌+◌, ◌*◌, ◌++◌, length, take, drop}
use Rattle.ac_wav.specs.Written.{places_bytes}
use Rattle.ac_wav.proofs.written.put_samples.Given as goal

abbrev pub invariant-loop-p : goal.invariant-loop-p
invariant-loop-p l = (length l.out ≡ 27648)
    × (take (l.at + 3 * l.p) l.out ≡ take l.at l.initial.out ++ places_bytes l.pcm.s l.coded l.t l.p)
    × (drop (l.at + 3 * l.p) l.out ≡ drop (l.at + 3 * l.p) l.initial.out)
