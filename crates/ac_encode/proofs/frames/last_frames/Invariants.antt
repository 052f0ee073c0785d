use Rattle.ac_encode.specs.Sound.{Sound}
use Rattle.ac_encode.specs.Frames.{Frames, AreLast, AreOwn, RowsFit, StandsAt}
use Rattle.ac_encode.specs.Loop.{EndsWith}
use Rattle.ac_world.specs.World.{Sinks, sinks, SinksNeverFall}
use Rattle.ac_encode.proofs.frames.last_frames.Given as goal

abbrev pub invariant-loop-i : goal.invariant-loop-i
invariant-loop-i g l = record {
  told : (s : Sound) (start : Sinks) → EndsWith s l.fn.read l.fn.encoder l.fn.work
      → Frames l.fn.encoder.options s l.fn.read.frames start (sinks g.O.Sink.held g.O.Sink.faults g.N.Sink.held g.N.Sink.faults l.initial.output l.initial.report)
      → Frames l.fn.encoder.options s l.i start (sinks g.O.Sink.held g.O.Sink.faults g.N.Sink.held g.N.Sink.faults l.output l.report)
      × AreLast s l.i l.encoder.last × AreOwn s l.i l.work.rows;
  next : StandsAt l.fn.encoder.options l.fn.encoder.layout l.i l.encoder;
  rows : RowsFit l.fn.encoder.layout l.work.rows;
  never_falls : SinksNeverFall (sinks g.O.Sink.held g.O.Sink.faults g.N.Sink.held g.N.Sink.faults l.initial.output l.initial.report)
      (sinks g.O.Sink.held g.O.Sink.faults g.N.Sink.held g.N.Sink.faults l.output l.report);
}
