use Rattle.std.proofs.Common.{◌≤◌}
use Rattle.ac_cosine_sums.proofs.has_few.Given as goal

abbrev pub invariant-loop-i : goal.invariant-loop-i
invariant-loop-i l = l.many ≤ l.i
