use Rattle.std.proofs.Common.{rules, SFits, w32, to_z-of_z, ◌≡◌, ◌+◌, ◌*◌, ◌++◌, take, arith, ap, sym, ◌∙◌, refl}
use Rattle.std.proofs.lemmas.List.{append-nil}
use Rattle.ac_wav.specs.Written.{sample_bytes, places_bytes}
use Rattle.ac_wav.proofs.Writes.{places_none, places_more, put_more, rest_more}
use Rattle.ac_wav.proofs.written.put_samples.Goals as goal

pub loop-p-init : goal.loop-p-init
loop-p-init c =
    let none : c.args.at + 0 ≡ c.args.at = omega arith in
    (c.told-out, ap (λ n. take n c.args.out.now) none ∙ (sym (append-nil (take c.args.at c.args.out.now)) ∙ ap (λ l. take c.args.at c.args.out.now ++ l) (sym (places_none c.args.pcm.now.s c.args.coded.now c.args.t))), refl)

pub loop-p-preserved : goal.loop-p-preserved
loop-p-preserved c =
    let i = c.loop-p.invariant in
    let fits : SFits w32 c.sample.result = search rules in
    let front = simp to_z-of_z at c.put_sample.ensures.front in
    let more : c.args.at + 3 * (c.loop-p.p + 1) ≡ c.args.at + 3 * c.loop-p.p + 3 = omega arith in (
      c.put_sample.array_long,
      put_more (take c.args.at c.args.out.now) c.loop-p.out c.put_sample.new.out (places_bytes c.args.pcm.now.s c.args.coded.now c.args.t c.loop-p.p) (sample_bytes c.sample.result)
          (c.args.at + 3 * c.loop-p.p) 3 (c.args.at + 3 * (c.loop-p.p + 1)) front i.1 more
          ∙ ap (λ l. take c.args.at c.args.out.now ++ l) (ap (λ z. places_bytes c.args.pcm.now.s c.args.coded.now c.args.t c.loop-p.p ++ sample_bytes z) c.sample.ensures ∙ sym (places_more c.args.pcm.now.s c.args.coded.now c.args.t c.loop-p.p)),
      rest_more c.args.out.now c.loop-p.out c.put_sample.new.out (c.args.at + 3 * c.loop-p.p) 3 (c.args.at + 3 * (c.loop-p.p + 1)) c.put_sample.ensures.rest i.2 more,
    )
