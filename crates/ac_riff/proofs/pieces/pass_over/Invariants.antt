use Rattle.std.proofs.Common.{◌-◌, ℕ, ◌+◌, ◌≤◌, List}
use Rattle.ac_io.specs.Within.{IsAt}
use Rattle.ac_riff.proofs.pieces.pass_over.Given as goal

abbrev pub invariant-loop-done : goal.invariant-loop-done
invariant-loop-done g l = record {
  within : l.done ≤ l.count;
  room : l.taken + l.done ≤ l.limit;
  told : (bytes : List ℕ) → IsAt bytes l.taken (g.S.Source.left l.initial.input) → IsAt bytes (l.taken + l.done) (g.S.Source.left l.input);
  faults : g.S.Source.faults l.initial.input ≤ g.S.Source.faults l.input;
}

abbrev pub decreases-loop-done : goal.decreases-loop-done
decreases-loop-done g l = l.count - l.done
