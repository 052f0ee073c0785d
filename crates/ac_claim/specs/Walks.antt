-- What the check of a tree goes by, and where it stands.
use Rattle.std.specs.Prelude.{◌≡◌, ℕ, ◌*◌, ◌^◌, ◌<◌, ◌≤◌, List, length, slice_index}
use Rattle.ac_cost.specs.Records.{AtOffset}
use Rattle.ac_bound.specs.declared.bounds.Partial.{Partial}
use Rattle.ac_seek.specs.declared.step.Step.{Step}
use Rattle.ac_seek.specs.Walks.{Holds}
use Rattle.ac_seek.specs.Words.{game_of}
use Rattle.ac_claim.specs.declared.basis.Basis.{Basis}

-- the table is one of the shape, at the offset
pub record IsBasis (basis : Basis) : Type 0 where
  pub same : basis.table.now.shape ≡ basis.shape.now
  pub here : basis.table.now.t ≡ basis.offset

-- the path is a partial assignment, which stands and has spent what the other says
pub record Stands (v : AtOffset) (path : List Step) (partial : Partial) : Type 0 where
  pub holds : Holds (game_of v) path partial
  pub few : (part : ℕ) → part < 3 → slice_index partial.spent part ≤ length path * 2 ^ 19
