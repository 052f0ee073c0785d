use Rattle.ac_bound.proofs.Onward.{IsKnownFrom}
use Rattle.ac_bound.proofs.pots.least_costs.Given as goal

abbrev pub invariant-loop-at : goal.invariant-loop-at
invariant-loop-at l = IsKnownFrom l.table l.c l.at l.rows
