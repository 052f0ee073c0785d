use Rattle.std.proofs.Common.{◌-◌, ℕ, ◌≤◌, List}
use Rattle.ac_riff.specs.Form.{IsFormatted}
use Rattle.ac_io.specs.Within.{IsAt}
use Rattle.ac_riff.proofs.head.find_samples.Given as goal

abbrev pub invariant-loop-chunk : goal.invariant-loop-chunk
invariant-loop-chunk g l = record {
  room : l.place ≤ l.limit;
  told : (bytes chunk : List ℕ) → IsFormatted bytes chunk l.start → IsAt bytes l.start (g.S.Source.left l.initial.input) → IsFormatted bytes chunk l.place × IsAt bytes l.place (g.S.Source.left l.input);
  faults : g.S.Source.faults l.initial.input ≤ g.S.Source.faults l.input;
}

abbrev pub decreases-loop-chunk : goal.decreases-loop-chunk
decreases-loop-chunk g l = l.limit - l.place
