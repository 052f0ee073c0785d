-- The window of offsets that is held while offsets are searched downwards. This project's own.
use Rattle.std.specs.Prelude.{ℕ, ◌+◌, ◌<◌, ◌≤◌, List}
use Rattle.ac_base.specs.declared.shapes.Shape.{Shape}
use Rattle.ac_windows.specs.Windows.{IsWindow}
use Rattle.ac_ways.specs.Sixteen.{AreWays}
use Rattle.ac_plan.specs.declared.window.Held.{Held}

-- the window and the potentials are those of the offsets from the first on; t isn't above them
pub record IsHeld (shape : Shape) (raw : List (List (List ℕ))) (t : ℕ) (held : Held) : Type 0 where
  pub first : held.first ≤ 1008
  pub window : IsWindow shape raw held.first held.window.six
  pub ways : AreWays shape raw held.first held.ways.p
  pub reach : t < held.first + 16
