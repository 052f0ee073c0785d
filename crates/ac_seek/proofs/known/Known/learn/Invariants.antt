use Rattle.std.proofs.Common.{◌≡◌}
use Rattle.ac_seek.proofs.known.Known.learn.Given as goal

abbrev pub invariant-loop-step : goal.invariant-loop-step
invariant-loop-step g l = l.self ≡ l.fn.self
