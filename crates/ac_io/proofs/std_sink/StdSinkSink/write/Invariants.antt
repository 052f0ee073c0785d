use Rattle.std.proofs.Common.{length, take, ◌-◌, ◌≤◌, ◌≡◌}
use Rattle.ac_io.specs.Outside.{Adds}
use Rattle.ac_io.proofs.std_sink.StdSinkSink.write.Given as goal

abbrev pub invariant-loop-done : goal.invariant-loop-done
invariant-loop-done g l =
    record {
      within : l.done ≤ length l.piece;
      faults : l.self.faults ≡ l.initial.self.faults;
      added : Adds (g.W.Write.contents l.initial.self.inner) (g.W.Write.contents l.self.inner) (take l.done l.piece);
    }

abbrev pub decreases-loop-done : goal.decreases-loop-done
decreases-loop-done g l = length l.piece - l.done
