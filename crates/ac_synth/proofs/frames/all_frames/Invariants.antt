use Rattle.std.specs.Prelude.{◌≡◌, ◌*◌, ◌^◌, ◌≤◌}
use Rattle.ac_synth.specs.Loop.{StandsBefore, IsOfSynth, AreDone}
use Rattle.ac_synth.proofs.frames.all_frames.Given as goal

abbrev pub invariant-loop-i : goal.invariant-loop-i
invariant-loop-i g l = record {
  seed : l.noise.seed ≡ l.fn.noise.seed;
  frames : l.noise.frames ≡ l.fn.noise.frames;
  given : l.noise.given ≡ l.i;
  stands : StandsBefore l.noise l.encoder;
  kind : IsOfSynth l.decoder.kind;
  done : AreDone l.fn.noise.seed l.fn.noise.frames l.i l.tally l.decoder (g.O.Sink.held l.initial.output) (g.O.Sink.held l.output);
  small : l.tally.sum ≤ l.i * (2 * 1536 * 2 ^ 23);
  never_falls : g.O.Sink.faults l.initial.output ≤ g.O.Sink.faults l.output;
}
