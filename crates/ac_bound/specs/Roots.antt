-- The root offset: above it the lower bounds alone rule each assignment out.
use Rattle.std.specs.Prelude.{ℕ, ◌<◌, ◌≤◌, List}
use Rattle.ac_base.specs.declared.shapes.Shape.{Shape}
use Rattle.ac_cost.specs.Records.{at_offset}
use Rattle.ac_bound.specs.Ways.{ArePots}
use Rattle.ac_bound.specs.Bounds.{lower_of, nothing, IsOver}

-- at this offset the assignment of which nothing is decided is closed: its lower bound in some part is over the part's room
pub record IsClosed (shape : Shape) (raw : List (List (List ℕ))) (t : ℕ) : Type 0 where
  pub pot : ℕ → ℕ → ℕ → ℕ
  pub are : ArePots (at_offset shape raw t) pot
  pub over : IsOver shape (lower_of shape pot nothing)

-- the greatest offset at which it isn't
pub record IsRoot (shape : Shape) (raw : List (List (List ℕ))) (r : ℕ) : Type 0 where
  pub within : r ≤ 1023
  pub is_open : IsClosed shape raw r → ⊥
  pub above : (t : ℕ) → r < t → t ≤ 1023 → IsClosed shape raw t
