use Rattle.std.proofs.Common.{◌≤◌}
use Rattle.ac_plan.specs.Helds.{IsHeld}
use Rattle.ac_plan.specs.Plans.{NoneFitsAbove}
use Rattle.ac_plan.proofs.Plans.{IsSpent}
use Rattle.ac_plan.proofs.search.descend.Given as goal

abbrev pub invariant-loop-t : goal.invariant-loop-t
invariant-loop-t l = record {
  within : l.t ≤ l.root;
  none : NoneFitsAbove l.shape l.rows.raw l.t;
  few : l.left ≤ l.nodes;
  spent : IsSpent l.shape l.rows.raw l.nodes l.root l.t l.left;
  held : IsHeld l.shape l.rows.raw l.t l.held;
}

abbrev pub decreases-loop-t : goal.decreases-loop-t
decreases-loop-t l = l.t
