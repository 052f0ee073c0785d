use Rattle.std.proofs.Common.{◌≡◌}
use Rattle.ac_base.specs.Sigma.{dot_of}
use Rattle.ac_base.proofs.numbers.dot.Given as goal

abbrev pub invariant-loop-i : goal.invariant-loop-i
invariant-loop-i g l = l.sum ≡ dot_of l.i l.a l.b
