-- What a certificate claims: this project's own.
use Rattle.std.specs.Prelude.{ℕ, ◌<◌, ◌≤◌, List}
use Rattle.ac_base.specs.declared.shapes.Shape.{Shape}
use Rattle.ac_cost.specs.Parts.{FitsAt, IsFeasible}
use Rattle.ac_cost.specs.Runs.{IsAssignmentOf}

-- the assignment fits at the offset, and none fits at any offset above the upper, up to the greatest there is
pub record IsClaim (shape : Shape) (raw : List (List (List ℕ))) (assign : List (List ℕ)) (offset upper : ℕ) : Type 0 where
  pub is_assignment : IsAssignmentOf shape assign
  pub fits : FitsAt shape raw offset assign
  pub order : offset ≤ upper
  pub none_above : (t : ℕ) → upper < t → t ≤ 1023 → IsFeasible shape raw t → ⊥
