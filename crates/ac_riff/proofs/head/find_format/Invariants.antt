use Rattle.std.proofs.Common.{◌-◌, ℕ, ◌≤◌, List}
use Rattle.ac_riff.specs.Form.{IsOpen}
use Rattle.ac_io.specs.Within.{IsAt}
use Rattle.ac_riff.proofs.head.find_format.Given as goal

abbrev pub invariant-loop-chunk : goal.invariant-loop-chunk
invariant-loop-chunk g l = record {
  room : l.place ≤ l.limit;
  told : (bytes : List ℕ) → IsOpen bytes 12 → IsAt bytes 12 (g.S.Source.left l.initial.input) → IsOpen bytes l.place × IsAt bytes l.place (g.S.Source.left l.input);
  faults : g.S.Source.faults l.initial.input ≤ g.S.Source.faults l.input;
}

abbrev pub decreases-loop-chunk : goal.decreases-loop-chunk
decreases-loop-chunk g l = l.limit - l.place
