use Rattle.std.proofs.Common.{◌≡◌, ◌∙◌, ap, Err, Option, codes, map, string_bytes, subst, sym}
use Rattle.ac_words.specs.Grammar.{FramesOf, SeedOf, Text}
use Rattle.ac_words.specs.declared.fault.WordsFault.{WordsFault}
use Rattle.ac_words.specs.declared.fault.WordsFault.TheVariants.{Usage}
use Rattle.ac_words.proofs.Said.{frames_read, seed_read, synth_from, synth_whole}
use Rattle.ac_words.proofs.options.synth_options.Goals as goal

pub returns-in-Err-clause-cause : goal.returns-in-Err-clause-cause
returns-in-Err-clause-cause c = λ u seed frames h.
    let fault : c.in-Err.fault ≡ Usage = cc u in
    c.in-Err.ensures.cause (ap (λ (e : WordsFault). Err e) fault) (synth_whole (map string_bytes c.args.words.now) seed frames h)

pub returns-in_default-clause-cause : goal.returns-in_default-clause-cause
returns-in_default-clause-cause c = λ u seed frames h.
    c.in_default.ensures seed
    (subst (λ (v : Option Text). SeedOf v seed) (sym (c.get_str.ensures ∙ c.in-Ok.ensures.found (codes "seed"))) (seed_read (map string_bytes c.args.words.now) seed frames h))

pub returns-in_default-frames_in-clause-cause : goal.returns-in_default-frames_in-clause-cause
returns-in_default-frames_in-clause-cause c = λ u seed frames h.
    c.in_default-frames_in.ensures frames
    (subst (λ (v : Option Text). FramesOf v frames) (sym (c.get_str-2.ensures ∙ c.in-Ok.ensures.found (codes "frames"))) (frames_read (map string_bytes c.args.words.now) seed frames h))

pub returns-clause-value : goal.returns-clause-value
returns-clause-value c =
    let seed = c.in-Some.seed in
    let frames = c.in-Some-frames_in.frames in
    synth_from (map string_bytes c.args.words.now) seed frames c.in-Ok.ensures.whole
    (subst (λ (v : Option Text). SeedOf v seed) (c.get_str.ensures ∙ c.in-Ok.ensures.found (codes "seed")) c.in-Some.ensures)
    (subst (λ (v : Option Text). FramesOf v frames) (c.get_str-2.ensures ∙ c.in-Ok.ensures.found (codes "frames")) c.in-Some-frames_in.ensures)
