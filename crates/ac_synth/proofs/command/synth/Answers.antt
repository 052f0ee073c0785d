use Rattle.std.proofs.Common.{inl, inr, refl, ap}
use Rattle.ac_noise.specs.Noise.{Noising}
use Rattle.ac_synth.proofs.Steps.{first_stands}
use Rattle.ac_synth.proofs.Ends.{fewer_by, all_by, stops_in_frames, stops_in_line, generated_all}
use Rattle.ac_synth.proofs.command.synth.Goals as goal

pub all_frames-requires-clause-stands : goal.all_frames-requires-clause-stands
all_frames-requires-clause-stands g c = first_stands c.new-noise.result c.in-Ok.encoder c.in-Ok.ensures.value (ap (λ (n : Noising). n.given) c.new-noise.ensures.value)

pub returns-in_default-all_frames-clause-told : goal.returns-in_default-all_frames-clause-told
returns-in_default-all_frames-clause-told g c =
    let seed = ap (λ (n : Noising). n.seed) c.new-noise.ensures.value in
    inl (stops_in_frames c.args.seed c.args.frames _ _ refl (fewer_by c.new-noise.result.seed c.args.seed c.args.frames c.args.frames _ _ seed refl c.in_default-all_frames.ensures.told))

pub returns-in_default-tell-clause-told : goal.returns-in_default-tell-clause-told
returns-in_default-tell-clause-told g c =
    let seed = ap (λ (n : Noising). n.seed) c.new-noise.ensures.value in
    inr (stops_in_line c.args.seed c.args.frames c.in-Ok-all_frames.tally _ _ (all_by c.new-noise.result.seed c.args.seed c.args.frames c.args.frames c.in-Ok-all_frames.tally _ _ seed refl c.in-Ok-all_frames.ensures.told) c.in_default-tell.ensures.front)

pub returns-clause-told : goal.returns-clause-told
returns-clause-told g c =
    let seed = ap (λ (n : Noising). n.seed) c.new-noise.ensures.value in
    generated_all c.args.seed c.args.frames c.in-Ok-all_frames.tally _ _ (all_by c.new-noise.result.seed c.args.seed c.args.frames c.args.frames c.in-Ok-all_frames.tally _ _ seed refl c.in-Ok-all_frames.ensures.told) c.in-Ok-tell.ensures.adds
