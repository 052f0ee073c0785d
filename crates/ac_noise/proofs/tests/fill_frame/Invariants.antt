use Rattle.std.proofs.Common.{◌≡◌}
use Rattle.ac_noise.proofs.tests.fill_frame.Given as goal

abbrev pub invariant-loop-done : goal.invariant-loop-done
invariant-loop-done l = l.noise.given ≡ l.done
