use Rattle.std.proofs.Common.{◌≡◌, ◌∙◌, List, ℕ, refl, subst}
use Rattle.ac_wav.specs.Written.{head_bytes, frame_samples}
use Rattle.ac_world.specs.Emits.{Emits}
use Rattle.ac_world.specs.World.{told, sinks}
use Rattle.ac_decode.specs.Lines.{frame_line}
use Rattle.ac_decode.specs.Sound.{at_start}
use Rattle.ac_decode.proofs.Emits.{front_of_both, emits_both}
use Rattle.ac_decode.proofs.emit.emit.Goals as goal

pub returns-in-Err-clause-told : goal.returns-in-Err-clause-told
returns-in-Err-clause-told g c =
    let heard = c.args.heard.now in
    (front_of_both _ _ (at_start c.args.i (head_bytes heard.acmod heard.lfe heard.fscod)) (frame_samples heard.acmod heard.lfe c.args.pcm.now.s) c.in-Err.ensures.front, refl {a = told g.N.Sink.held g.N.Sink.faults c.args.report.now})

pub returns-clause-told : goal.returns-clause-told
returns-clause-told g c =
    let heard = c.args.heard.now in
    let old = sinks g.O.Sink.held g.O.Sink.faults g.N.Sink.held g.N.Sink.faults c.args.output.now c.args.report.now in
    let mid = sinks g.O.Sink.held g.O.Sink.faults g.N.Sink.held g.N.Sink.faults c.start.new.output c.args.report.now in
    let new = sinks g.O.Sink.held g.O.Sink.faults g.N.Sink.held g.N.Sink.faults c.emit.new.output c.emit.new.report in
    let line : c.as_bytes.result.now ≡ frame_line c.args.i heard.size = c.as_bytes.ensures.value ∙ (c.deref.ensures.0 ∙ c.frame-line.ensures) in
    let piece = frame_samples heard.acmod heard.lfe c.args.pcm.now.s in
    let here = subst (λ (l : List ℕ). Emits piece l c.emit.result mid new) line
    (subst (λ (p : List ℕ). Emits p c.as_bytes.result.now c.emit.result mid new) c.wav_samples-size.ensures.bytes c.emit.ensures.told) in
    emits_both (at_start c.args.i (head_bytes heard.acmod heard.lfe heard.fscod)) piece (frame_line c.args.i heard.size) c.emit.result old mid new c.in-Ok.ensures.adds refl here
