use Rattle.std.proofs.Common.{◌≡◌, ◌+◌, ◌*◌, [], take, arith, ap, sym, ◌∙◌, refl}
use Rattle.ac_wav.specs.Written.{places_bytes, samples_bytes}
use Rattle.ac_wav.proofs.Writes.{samples_none, samples_more, put_more, rest_more}
use Rattle.ac_wav.proofs.written.wav_samples.Goals as goal

pub loop-t-init : goal.loop-t-init
loop-t-init c =
    let none : 3 * c.from-align.result * 0 ≡ 0 = omega arith in
    (c.told-out, ap (λ n. take n c.args.out.now) none ∙ sym (samples_none c.args.pcm.now.s c.coded-coded.result c.channels-channels.result), refl)

pub loop-t-preserved : goal.loop-t-preserved
loop-t-preserved c =
    let i = c.loop-t.invariant in
    let width : 3 * c.from-align.result ≡ 3 * c.channels-channels.result = ap (λ n. 3 * n) c.from-align.ensures in
    let more : 3 * c.from-align.result * (c.loop-t.t + 1) ≡ 3 * c.from-align.result * c.loop-t.t + 3 * c.channels-channels.result = omega (arith, width) in (
      c.put_samples.array_long,
      put_more [] c.loop-t.out c.put_samples.new.out (samples_bytes c.args.pcm.now.s c.coded-coded.result c.channels-channels.result c.loop-t.t) (places_bytes c.args.pcm.now.s c.coded-coded.result c.loop-t.t c.channels-channels.result)
          (3 * c.from-align.result * c.loop-t.t) (3 * c.channels-channels.result) (3 * c.from-align.result * (c.loop-t.t + 1)) c.put_samples.ensures.front i.1 more
          ∙ sym (samples_more c.args.pcm.now.s c.coded-coded.result c.channels-channels.result c.loop-t.t),
      rest_more c.args.out.now c.loop-t.out c.put_samples.new.out (3 * c.from-align.result * c.loop-t.t) (3 * c.channels-channels.result) (3 * c.from-align.result * (c.loop-t.t + 1)) c.put_samples.ensures.rest i.2 more,
    )
