-- What the proofs of the tree ask of a game, its potentials and a test of whole assignments.
use Rattle.std.proofs.Common.{ℕ, ◌+◌, ◌<◌, ◌≤◌, List}
use Rattle.ac_seek.specs.declared.step.Step.{Step}
use Rattle.ac_seek.specs.Games.{Game, IsNext, IsPath, channel_of, channel_after, boundary_after, spent}
use Rattle.ac_seek.specs.Trees.{rest}

-- no run costs less than what is still to come falls by
abbrev pub IsBound : Game → (ℕ → ℕ → ℕ → ℕ) → Type 0
IsBound g pot =
    (part channel at : ℕ) (s : Step) → part < 3 → IsNext g channel at s
    → rest g pot part channel at ≤ g.cost part s + rest g pot part (channel_after s) (boundary_after s)

-- a whole assignment that passes is within each room
abbrev pub IsStrict : Game → (List Step → Type 0) → Type 0
IsStrict g Passes =
    (part : ℕ) (path : List Step) → part < 3 → IsPath g path → g.channels ≤ channel_of path → Passes path
    → g.base part + spent g part path ≤ g.room part

pub record IsGame (g : Game) (pot : ℕ → ℕ → ℕ → ℕ) (Passes : List Step → Type 0) : Type 0 where
  pub bound : IsBound g pot
  pub strict : IsStrict g Passes
