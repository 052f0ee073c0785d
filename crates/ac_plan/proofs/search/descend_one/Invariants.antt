use Rattle.std.proofs.Common.{◌≤◌}
use Rattle.ac_plan.specs.Best.{NoneFitsAbove}
use Rattle.ac_plan.specs.Helds.{IsHeld}
use Rattle.ac_plan.proofs.search.descend_one.Given as goal

abbrev pub invariant-loop-t : goal.invariant-loop-t
invariant-loop-t l = record {
  within : l.t ≤ l.root;
  none : NoneFitsAbove l.shape l.rows.raw l.t;
  held : IsHeld l.shape l.rows.raw l.t l.held;
}

abbrev pub decreases-loop-t : goal.decreases-loop-t
decreases-loop-t l = l.t
