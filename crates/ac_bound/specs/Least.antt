-- The least cost of some things: plain mathematics.
use Rattle.std.specs.Prelude.{◌≡◌, ℕ, ◌≤◌}

-- m is what one of them costs, and at most what each costs
pub record IsLeast {X : Type 0} (Is : X → Type 0) (cost : X → ℕ) (m : ℕ) : Type 0 where
  pub one : X
  pub is_one : Is one
  pub met : cost one ≡ m
  pub least : (x : X) → Is x → m ≤ cost x
