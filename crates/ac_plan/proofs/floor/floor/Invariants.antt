use Rattle.std.proofs.Common.{◌≤◌}
use Rattle.ac_plan.specs.Helds.{IsHeld}
use Rattle.ac_plan.specs.Uniform.{NoneUniform}
use Rattle.ac_plan.proofs.floor.floor.Given as goal

abbrev pub invariant-loop-t : goal.invariant-loop-t
invariant-loop-t l = record {
  within : l.t ≤ l.top;
  none : NoneUniform l.shape l.rows.raw l.t l.top;
  held : IsHeld l.shape l.rows.raw l.t l.held;
}

abbrev pub decreases-loop-t : goal.decreases-loop-t
decreases-loop-t l = l.t
