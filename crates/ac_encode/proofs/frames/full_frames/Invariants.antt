use Rattle.std.proofs.Common.{◌≡◌, ℕ, ◌-◌, ◌*◌, ◌≤◌, List}
use Rattle.ac_riff.specs.Refusal.{HeadRead}
use Rattle.ac_wav.specs.Body.{head_in, limit_of, taken_by, IsBehind}
use Rattle.ac_enc.specs.Layout.{layout_of}
use Rattle.ac_encode.specs.Frames.{StandsAt}
use Rattle.ac_world.specs.Limit.{limit}
use Rattle.ac_world.specs.World.{sinks, world, NeverFalls}
use Rattle.ac_encode.proofs.Loops.{SoFar}
use Rattle.ac_encode.proofs.frames.full_frames.Given as goal

abbrev pub invariant-loop-rest : goal.invariant-loop-rest
invariant-loop-rest g l = record {
  told : (bytes : List ℕ) → HeadRead bytes limit l.head (g.S.Source.left l.initial.input)
      → SoFar l.initial.encoder.options bytes l.head l.body l.frames l.encoder.last (g.S.Source.left l.input)
      (sinks g.O.Sink.held g.O.Sink.faults g.N.Sink.held g.N.Sink.faults l.initial.output l.initial.report)
      (sinks g.O.Sink.held g.O.Sink.faults g.N.Sink.held g.N.Sink.faults l.output l.report);
  head : head_in l.body ≡ l.head;
  limit_is : limit_of l.body ≡ limit;
  stands : IsBehind l.body (1536 * l.frames);
  room : taken_by l.body ≤ limit;
  next : StandsAt l.initial.encoder.options (layout_of l.head) l.frames l.encoder;
  never_falls : NeverFalls
      (world g.S.Source.left g.S.Source.faults g.O.Sink.held g.O.Sink.faults g.N.Sink.held g.N.Sink.faults l.initial.input l.initial.output l.initial.report)
      (world g.S.Source.left g.S.Source.faults g.O.Sink.held g.O.Sink.faults g.N.Sink.held g.N.Sink.faults l.input l.output l.report);
}

abbrev pub decreases-loop-rest : goal.decreases-loop-rest
decreases-loop-rest g l = limit - taken_by l.body
