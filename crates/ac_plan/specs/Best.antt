-- The greatest offset at which some assignment fits: this project's own.
use Rattle.std.specs.Prelude.{ℕ, ◌<◌, ◌≤◌, List}
use Rattle.ac_base.specs.declared.shapes.Shape.{Shape}
use Rattle.ac_cost.specs.Parts.{IsFeasible}

-- no assignment fits at an offset above s, up to the greatest there is
abbrev pub NoneFitsAbove : Shape → List (List (List ℕ)) → ℕ → Type 0
NoneFitsAbove shape raw s = (t : ℕ) → s < t → t ≤ 1023 → IsFeasible shape raw t → ⊥

-- the greatest offset at which some assignment fits
pub record IsBest (shape : Shape) (raw : List (List (List ℕ))) (s : ℕ) : Type 0 where
  pub feasible : IsFeasible shape raw s
  pub none_above : NoneFitsAbove shape raw s
