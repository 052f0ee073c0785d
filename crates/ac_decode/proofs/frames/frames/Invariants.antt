use Rattle.std.proofs.Common.{◌≡◌, ℕ, ◌-◌, ◌≤◌, List, Some}
use Rattle.ac_world.specs.World.{sinks, world, NeverFalls}
use Rattle.ac_world.specs.Limit.{limit}
use Rattle.ac_decode.specs.Loop.{SoFar}
use Rattle.ac_decode.proofs.frames.frames.Given as goal

abbrev pub invariant-loop-n : goal.invariant-loop-n
invariant-loop-n g l = record {
  told : (bytes : List ℕ) → g.S.Source.left l.initial.input ≡ Some bytes
      → SoFar bytes l.taken l.i l.decoder (g.S.Source.left l.input)
      (sinks g.O.Sink.held g.O.Sink.faults g.N.Sink.held g.N.Sink.faults l.initial.output l.initial.report)
      (sinks g.O.Sink.held g.O.Sink.faults g.N.Sink.held g.N.Sink.faults l.output l.report);
  within : l.taken ≤ limit;
  few : l.i ≤ l.taken;
  never_falls : NeverFalls
      (world g.S.Source.left g.S.Source.faults g.O.Sink.held g.O.Sink.faults g.N.Sink.held g.N.Sink.faults l.initial.input l.initial.output l.initial.report)
      (world g.S.Source.left g.S.Source.faults g.O.Sink.held g.O.Sink.faults g.N.Sink.held g.N.Sink.faults l.input l.output l.report);
}

abbrev pub decreases-loop-n : goal.decreases-loop-n
decreases-loop-n g l = limit - l.taken
