-- The leaves of a made tree, and what they are made by.
use Rattle.std.specs.Prelude.{◌≡◌, ℕ, ◌*◌, ◌<◌, ◌≤◌}
use Rattle.ac_base.specs.declared.shapes.Shape.{Shape}
use Rattle.ac_base.specs.declared.sizes.Parts.{Parts}
use Rattle.ac_base.specs.Fit.{rooms_of}
use Rattle.ac_cost.specs.Sixths.{part_of}
use Rattle.ac_bound.specs.Ways.{ArePots, potential}
use Rattle.ac_trees.specs.declared.offset.Offset.{Offset}

-- the table is one of the shape, and the potentials are the least costs on it
pub record IsOffset (offset : Offset) : Type 0 where
  pub same : offset.table.now.shape ≡ offset.shape.now
  pub are : ArePots offset.table.now (potential offset.pots.now.p)

-- sixths that are over the room of a part, and sixths that are over none
abbrev pub IsOverIn : Shape → (ℕ → ℕ) → ℕ → Type 0
IsOverIn shape sixths part = 6 * part_of (rooms_of shape.words) part < sixths part

abbrev pub AreWithin : Shape → (ℕ → ℕ) → Type 0
AreWithin shape sixths = (part : ℕ) → part < 3 → sixths part ≤ 6 * part_of (rooms_of shape.words) part

-- each part is at most its room
abbrev pub AreWithinRooms : Parts → Parts → Type 0
AreWithinRooms parts rooms = (part : ℕ) → part < 3 → part_of parts part ≤ part_of rooms part
