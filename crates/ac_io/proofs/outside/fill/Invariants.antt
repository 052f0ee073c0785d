use Rattle.std.proofs.Common.{◌-◌, ◌≤◌, length}
use Rattle.ac_io.specs.Outside.{ReadsFront}
use Rattle.ac_io.proofs.outside.fill.Given as goal

abbrev pub invariant-loop-done : goal.invariant-loop-done
invariant-loop-done g l =
    record {
      within : l.done ≤ length l.into;
      front : ReadsFront (g.S.Source.left l.initial.input) (g.S.Source.left l.input) l.into l.done;
      faults : g.S.Source.faults l.initial.input ≤ g.S.Source.faults l.input;
    }

abbrev pub decreases-loop-done : goal.decreases-loop-done
decreases-loop-done g l = length l.into - l.done
