use Rattle.std.proofs.Common.{arith}
use Rattle.std.proofs.lemmas.Result.{err_from_is_err_and}
use Rattle.ac_world.specs.World.{sinks, world}
use Rattle.ac_decode.proofs.Loops.{so_far_first, all_decoded, sees_end, unread, sees_unread, stopped, sees_stopped, so_far_more, step_rose}
use Rattle.ac_decode.proofs.frames.frames.Goals as goal

pub loop-n-init : goal.loop-n-init
loop-n-init g c = record {
  told = λ bytes e. so_far_first c.sound_law.ensures.first bytes c.args.decoder.now (g.S.Source.left c.args.input.now) (sinks g.O.Sink.held g.O.Sink.faults g.N.Sink.held g.N.Sink.faults c.args.output.now c.args.report.now) c.requires e;
  within = omega arith;
  few = omega arith;
  never_falls = (omega arith, (omega arith, omega arith));
}

pub loop-n-preserved : goal.loop-n-preserved
loop-n-preserved g c =
    let l = c.loop-n in
    let i = l.invariant in
    let n = c.in_ok-n.n in
    let f = c.in_ok-step.ensures.never_falls in
    let up = i.never_falls in
    let old = sinks g.O.Sink.held g.O.Sink.faults g.N.Sink.held g.N.Sink.faults c.args.output.now c.args.report.now in
    let mid = sinks g.O.Sink.held g.O.Sink.faults g.N.Sink.held g.N.Sink.faults l.output l.report in
    let new = sinks g.O.Sink.held g.O.Sink.faults g.N.Sink.held g.N.Sink.faults c.step.new.output c.step.new.report in
    record {
      told = λ bytes e.
          let s = i.told bytes e in
          so_far_more c.sound_law.ensures.front bytes l.taken l.i n l.decoder c.step.new.decoder c.next.new.into (g.S.Source.left l.input) (g.S.Source.left c.next.new.input) old mid new c.fit_law.ensures s (c.in_ok-n.ensures.told bytes s.at)
          (c.in_ok-step.ensures.told s.frames s.number s.stands);
      within = c.in_ok-n.ensures.bound;
      few = omega (arith, i.few, c.if-n-eq0.false);
      never_falls = (omega (arith, up.0, c.in_ok-n.ensures.never_falls), (omega (arith, up.1.0, f.0), omega (arith, up.1.1, f.1)));
    }

pub returns-in_err-n-clause-told : goal.returns-in_err-n-clause-told
returns-in_err-n-clause-told g c = λ bytes e.
    let l = c.loop-n in
    let s = l.invariant.told bytes e in
    let old = world g.S.Source.left g.S.Source.faults g.O.Sink.held g.O.Sink.faults g.N.Sink.held g.N.Sink.faults c.args.input.now c.args.output.now c.args.report.now in
    let new = world g.S.Source.left g.S.Source.faults g.O.Sink.held g.O.Sink.faults g.N.Sink.held g.N.Sink.faults c.next.new.input l.output l.report in
    let p = err_from_is_err_and c.from_residual.result c.from_residual.ensures.1 in
    rw (p.1, p.2) (unread bytes l.taken l.i l.decoder (g.S.Source.left l.input) c.in_err-n.field-0.0 old new l.invariant.within s (c.in_err-n.ensures.told bytes s.at))

pub returns-in_err-n-clause-sees : goal.returns-in_err-n-clause-sees
returns-in_err-n-clause-sees g c = λ bytes e.
    let l = c.loop-n in
    let s = l.invariant.told bytes e in
    let old = sinks g.O.Sink.held g.O.Sink.faults g.N.Sink.held g.N.Sink.faults c.args.output.now c.args.report.now in
    let new = sinks g.O.Sink.held g.O.Sink.faults g.N.Sink.held g.N.Sink.faults l.output l.report in
    let p = err_from_is_err_and c.from_residual.result c.from_residual.ensures.1 in
    rw (p.1, p.2) (sees_unread bytes l.taken l.i l.decoder (g.S.Source.left l.input) (g.S.Source.left c.next.new.input) c.in_err-n.field-0.0 old new l.invariant.within s (c.in_err-n.ensures.told bytes s.at))

pub returns-in_err-n-clause-most_read : goal.returns-in_err-n-clause-most_read
returns-in_err-n-clause-most_read g c = λ bytes e. c.in_err-n.ensures.most_read bytes (c.loop-n.invariant.told bytes e).at

pub returns-in_err-n-clause-never_falls : goal.returns-in_err-n-clause-never_falls
returns-in_err-n-clause-never_falls g c =
    let up = c.loop-n.invariant.never_falls in
    (omega (arith, up.0, c.in_err-n.ensures.never_falls), up.1)

pub returns-then-n-eq0-clause-told : goal.returns-then-n-eq0-clause-told
returns-then-n-eq0-clause-told g c = λ bytes e.
    let l = c.loop-n in
    let s = l.invariant.told bytes e in
    let old = world g.S.Source.left g.S.Source.faults g.O.Sink.held g.O.Sink.faults g.N.Sink.held g.N.Sink.faults c.args.input.now c.args.output.now c.args.report.now in
    let new = world g.S.Source.left g.S.Source.faults g.O.Sink.held g.O.Sink.faults g.N.Sink.held g.N.Sink.faults c.next.new.input l.output l.report in
    all_decoded bytes l.taken l.i c.in_ok-n.n l.decoder c.next.new.into (g.S.Source.left l.input) old new c.if-n-eq0.true l.invariant.within s (c.in_ok-n.ensures.told bytes s.at)

pub returns-then-n-eq0-clause-sees : goal.returns-then-n-eq0-clause-sees
returns-then-n-eq0-clause-sees g c = λ bytes e.
    let l = c.loop-n in
    let s = l.invariant.told bytes e in
    let old = sinks g.O.Sink.held g.O.Sink.faults g.N.Sink.held g.N.Sink.faults c.args.output.now c.args.report.now in
    let new = sinks g.O.Sink.held g.O.Sink.faults g.N.Sink.held g.N.Sink.faults l.output l.report in
    sees_end bytes l.taken l.i c.in_ok-n.n l.decoder c.next.new.into (g.S.Source.left l.input) (g.S.Source.left c.next.new.input) old new c.if-n-eq0.true l.invariant.within s (c.in_ok-n.ensures.told bytes s.at)

pub returns-then-n-eq0-clause-most_read : goal.returns-then-n-eq0-clause-most_read
returns-then-n-eq0-clause-most_read g c = λ bytes e. c.in_ok-n.ensures.most_read bytes (c.loop-n.invariant.told bytes e).at

pub returns-then-n-eq0-clause-never_falls : goal.returns-then-n-eq0-clause-never_falls
returns-then-n-eq0-clause-never_falls g c =
    let up = c.loop-n.invariant.never_falls in
    (omega (arith, up.0, c.in_ok-n.ensures.never_falls), up.1)

pub returns-in_err-step-clause-told : goal.returns-in_err-step-clause-told
returns-in_err-step-clause-told g c = λ bytes e.
    let l = c.loop-n in
    let s = l.invariant.told bytes e in
    let old = world g.S.Source.left g.S.Source.faults g.O.Sink.held g.O.Sink.faults g.N.Sink.held g.N.Sink.faults c.args.input.now c.args.output.now c.args.report.now in
    let new = world g.S.Source.left g.S.Source.faults g.O.Sink.held g.O.Sink.faults g.N.Sink.held g.N.Sink.faults c.next.new.input c.step.new.output c.step.new.report in
    let mid = sinks g.O.Sink.held g.O.Sink.faults g.N.Sink.held g.N.Sink.faults l.output l.report in
    let p = err_from_is_err_and c.from_residual-in_err-step.result c.from_residual-in_err-step.ensures.1 in
    rw (p.1, p.2) (stopped bytes l.taken l.i c.in_ok-n.n l.decoder c.next.new.into (g.S.Source.left l.input) c.in_err-step.field-0.0 old new mid c.fit_law.ensures c.if-n-eq0.false c.in_ok-n.ensures.bound s (c.in_ok-n.ensures.told bytes s.at)
    (c.in_err-step.ensures.told s.frames s.number s.stands))

pub returns-in_err-step-clause-sees : goal.returns-in_err-step-clause-sees
returns-in_err-step-clause-sees g c = λ bytes e.
    let l = c.loop-n in
    let s = l.invariant.told bytes e in
    let old = sinks g.O.Sink.held g.O.Sink.faults g.N.Sink.held g.N.Sink.faults c.args.output.now c.args.report.now in
    let new = sinks g.O.Sink.held g.O.Sink.faults g.N.Sink.held g.N.Sink.faults c.step.new.output c.step.new.report in
    let mid = sinks g.O.Sink.held g.O.Sink.faults g.N.Sink.held g.N.Sink.faults l.output l.report in
    let p = err_from_is_err_and c.from_residual-in_err-step.result c.from_residual-in_err-step.ensures.1 in
    rw (p.1, p.2) (sees_stopped bytes l.taken l.i c.in_ok-n.n l.decoder c.next.new.into (g.S.Source.left l.input) (g.S.Source.left c.next.new.input) c.in_err-step.field-0.0 old mid new c.fit_law.ensures c.if-n-eq0.false c.in_ok-n.ensures.bound s (c.in_ok-n.ensures.told bytes s.at)
    (c.in_err-step.ensures.told s.frames s.number s.stands))

pub returns-in_err-step-clause-most_read : goal.returns-in_err-step-clause-most_read
returns-in_err-step-clause-most_read g c = λ bytes e. c.in_ok-n.ensures.most_read bytes (c.loop-n.invariant.told bytes e).at

pub returns-in_err-step-clause-rose : goal.returns-in_err-step-clause-rose
returns-in_err-step-clause-rose g c =
    let l = c.loop-n in
    let old = world g.S.Source.left g.S.Source.faults g.O.Sink.held g.O.Sink.faults g.N.Sink.held g.N.Sink.faults c.args.input.now c.args.output.now c.args.report.now in
    let new = world g.S.Source.left g.S.Source.faults g.O.Sink.held g.O.Sink.faults g.N.Sink.held g.N.Sink.faults c.next.new.input c.step.new.output c.step.new.report in
    let mid = sinks g.O.Sink.held g.O.Sink.faults g.N.Sink.held g.N.Sink.faults l.output l.report in
    let p = err_from_is_err_and c.from_residual-in_err-step.result c.from_residual-in_err-step.ensures.1 in
    rw (p.1, p.2) (step_rose c.in_err-step.field-0.0 old new mid l.invariant.never_falls.1 c.in_err-step.ensures.rose)

pub returns-in_err-step-clause-never_falls : goal.returns-in_err-step-clause-never_falls
returns-in_err-step-clause-never_falls g c =
    let up = c.loop-n.invariant.never_falls in
    let f = c.in_err-step.ensures.never_falls in
    (omega (arith, up.0, c.in_ok-n.ensures.never_falls), (omega (arith, up.1.0, f.0), omega (arith, up.1.1, f.1)))
