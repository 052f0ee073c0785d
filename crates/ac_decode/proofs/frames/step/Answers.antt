use Rattle.std.proofs.Common.{take, Err}
use Rattle.std.proofs.lemmas.Result.{err_from_is_err_and}
use Rattle.ac_world.specs.World.{sinks}
use Rattle.ac_decode.proofs.Steps.{next_behind, frame_leaves, goes_on, heard_fits}
use Rattle.ac_decode.proofs.frames.step.Goals as goal

pub emit-requires-clause-acmod_least : goal.emit-requires-clause-acmod_least
emit-requires-clause-acmod_least g c = (heard_fits _ c.in-Ok.ensures.value.0 c.in-Ok.heard c.frame.new.out _ _ c.in-Ok.ensures.value.1).0

pub emit-requires-clause-acmod_most : goal.emit-requires-clause-acmod_most
emit-requires-clause-acmod_most g c = (heard_fits _ c.in-Ok.ensures.value.0 c.in-Ok.heard c.frame.new.out _ _ c.in-Ok.ensures.value.1).1

pub emit-requires-clause-fscod : goal.emit-requires-clause-fscod
emit-requires-clause-fscod g c = (heard_fits _ c.in-Ok.ensures.value.0 c.in-Ok.heard c.frame.new.out _ _ c.in-Ok.ensures.value.1).2

pub returns-in_err-emit-in-Ok-clause-told : goal.returns-in_err-emit-in-Ok-clause-told
returns-in_err-emit-in-Ok-clause-told g c = λ gs at stands.
    let d = c.in-Ok.ensures.value in
    let old = sinks g.O.Sink.held g.O.Sink.faults g.N.Sink.held g.N.Sink.faults c.args.output.now c.args.report.now in
    let new = sinks g.O.Sink.held g.O.Sink.faults g.N.Sink.held g.N.Sink.faults c.emit.new.output c.emit.new.report in
    let bytes = take c.args.n c.args.work.now.frame in
    let p = err_from_is_err_and c.from_residual.result c.from_residual.ensures.1 in
    rw (p.1, p.2) (
      d.0,
      next_behind gs bytes d.0 c.in-Ok.heard c.frame.new.out c.args.decoder.now c.frame.new.self stands d.1,
      frame_leaves c.sound_law.ensures.next c.args.i gs bytes d.0 c.in-Ok.heard c.frame.new.out c.args.decoder.now c.frame.new.self (Err c.in_err-emit-in-Ok.field-0.0) old new at stands d.1 c.in_err-emit-in-Ok.ensures.told,
    )

pub returns-in_ok-emit-in-Ok-clause-told : goal.returns-in_ok-emit-in-Ok-clause-told
returns-in_ok-emit-in-Ok-clause-told g c = λ gs at stands.
    let d = c.in-Ok.ensures.value in
    let old = sinks g.O.Sink.held g.O.Sink.faults g.N.Sink.held g.N.Sink.faults c.args.output.now c.args.report.now in
    let new = sinks g.O.Sink.held g.O.Sink.faults g.N.Sink.held g.N.Sink.faults c.emit.new.output c.emit.new.report in
    goes_on c.sound_law.ensures.next c.sound_law.ensures.behind c.args.i gs (take c.args.n c.args.work.now.frame) d.0 c.in-Ok.heard c.frame.new.out c.args.decoder.now c.frame.new.self old new at stands d.1 c.in_ok-emit-in-Ok.ensures.told
