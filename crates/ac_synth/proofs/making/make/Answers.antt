use Rattle.std.proofs.Common.{take, ap}
use Rattle.ac_noise.specs.Noise.{Noising}
use Rattle.ac_synth.proofs.Steps.{own, made_told, made_next}
use Rattle.ac_synth.proofs.making.make.Goals as goal

pub returns-clause-frame : goal.returns-clause-frame
returns-clause-frame c =
    let n = c.args.noise.now in
    let rows = c.frame.new.rows in
    made_told c.depends.ensures n c.args.encoder.now rows c.frame-2.result.plan (take c.frame-2.result.size c.frame-2.new.out) c.requires.stands (own n rows c.frame.ensures.value) c.frame-2.ensures.frame

pub returns-clause-next : goal.returns-clause-next
returns-clause-next c =
    let n = c.args.noise.now in
    let rows = c.frame.new.rows in
    let behind = c.frame.ensures.count in
    made_next n c.frame.new.self c.args.encoder.now c.frame-2.new.self rows c.requires.stands (own n rows c.frame.ensures.value) c.rows_law.ensures
    (record { options = c.frame-2.ensures.same_options; layout_is = c.frame-2.ensures.same_layout; number = c.frame-2.ensures.frames; last = c.frame-2.ensures.last })
    (ap (λ (m : Noising). m.seed) behind) (ap (λ (m : Noising). m.frames) behind) (ap (λ (m : Noising). m.given) behind)
