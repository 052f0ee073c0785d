use Rattle.ac_ways.proofs.Boundaries.{IsKnownFrom}
use Rattle.ac_ways.proofs.steps.part_ways.Given as goal

abbrev pub invariant-loop-at : goal.invariant-loop-at
invariant-loop-at l = IsKnownFrom l.kinds l.rows l.part l.at l.out
