use Rattle.std.proofs.Common.{◌≡◌, ◌*◌, length, take, drop}
use Rattle.ac_wav.specs.Written.{samples_bytes}
use Rattle.ac_wav.proofs.written.wav_samples.Given as goal

abbrev pub invariant-loop-t : goal.invariant-loop-t
invariant-loop-t l = (length l.out ≡ 27648)
    × (take (l.align * l.t) l.out ≡ samples_bytes l.pcm.s l.coded l.channels l.t)
    × (drop (l.align * l.t) l.out ≡ drop (l.align * l.t) l.initial.out)
