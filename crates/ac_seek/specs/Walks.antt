-- Where a search stands, and what is still to be looked at.
use Rattle.std.specs.Prelude.{◌≡◌, ℕ, ◌+◌, ◌-◌, ◌*◌, ◌<◌, ◌≤◌, List, [], ◌∷◌, ◌++◌, map, slice_index}
use Rattle.std.specs.List.{AllByRecursion}
use Rattle.ac_cost.specs.Parts.{FitsAt}
use Rattle.ac_cost.specs.Records.{AtOffset}
use Rattle.ac_cost.specs.Runs.{IsAssignmentOf}
use Rattle.ac_bound.specs.declared.bounds.Partial.{Partial}
use Rattle.ac_bound.specs.Ways.{ArePots}
use Rattle.ac_seek.specs.declared.step.Step.{Step}
use Rattle.ac_seek.specs.declared.walk.Turn.{Turn}
use Rattle.ac_seek.specs.declared.walk.Turn.TheVariants.{Found, Ended, Goes}
use Rattle.ac_seek.specs.Games.{Game, IsPath, channel_of, boundary_of, spent}
use Rattle.ac_seek.specs.Trees.{total, of_kinds, of_ends, tree_size, NonePasses}
use Rattle.ac_seek.specs.declared.answer.Seek.{Seek}
use Rattle.ac_seek.specs.declared.answer.Seek.TheVariants.{Fits, Never, Spent}
use Rattle.ac_seek.specs.Words.{game_of, FitsHere, NoneFits}

-- the path is a partial assignment, which stands and has spent what the other says
pub record Holds (g : Game) (path : List Step) (partial : Partial) : Type 0 where
  pub valid : IsPath g path
  pub done : partial.done ≡ channel_of path
  pub at : partial.at ≡ boundary_of path
  pub right : (part : ℕ) → part < 3 → slice_index partial.spent part ≡ spent g part path

-- the runs that may come in the place of this one, behind it in the order of `next_steps`
abbrev pub later_steps : (ℕ → ℕ) → Step → List Step
later_steps kinds s =
    of_kinds (kinds s.channel - s.run.kind) s.channel s.run.from s.run.to (s.run.kind + 1)
    ++ of_ends kinds (6 - s.run.to) s.channel s.run.from (s.run.to + 1)

-- the partial assignments that a search has to look at after this one and what completes it, next first
abbrev pub laters : (ℕ → ℕ) → List Step → List (List Step)
laters kinds [] = []
laters kinds (s ∷ path) = map (λ next. next ∷ path) (later_steps kinds s) ++ laters kinds path

-- how many nodes the trees of these and of this one have
abbrev pub owed : Game → (ℕ → ℕ → ℕ → ℕ) → List Step → ℕ
owed g pot path = tree_size g pot path + total (tree_size g pot) (laters g.kinds path)

-- nothing in them passes
abbrev pub NothingLeft : Game → (List Step → Type 0) → List Step → Type 0
NothingLeft g Passes path = NonePasses g Passes path × AllByRecursion (NonePasses g Passes) (laters g.kinds path)

-- what is done where nothing that begins as the old partial assignment fits and the tree has no more nodes below it
abbrev pub IsPassed : AtOffset → List Step → List Step → Turn → Type 0
IsPassed v old new (Found a) = ⊥
IsPassed v old new Ended = laters (game_of v).kinds old ≡ []
IsPassed v old new Goes = laters (game_of v).kinds old ≡ new ∷ laters (game_of v).kinds new

-- what one look does
abbrev pub IsTurn : AtOffset → List Step → List Step → Turn → Type 0
IsTurn v old new (Found a) = IsAssignmentOf v.shape a.w × FitsAt v.shape v.raw v.t a.w
IsTurn v old new Ended =
    (pot : ℕ → ℕ → ℕ → ℕ) → ArePots v pot → (owed (game_of v) pot old ≡ 1) × NothingLeft (game_of v) (FitsHere v) old
IsTurn v old new Goes =
    (pot : ℕ → ℕ → ℕ → ℕ) → ArePots v pot
    → (owed (game_of v) pot old ≡ 1 + owed (game_of v) pot new)
    × (NothingLeft (game_of v) (FitsHere v) new → NothingLeft (game_of v) (FitsHere v) old)

-- what the search finds, by any potentials
abbrev pub IsFound : AtOffset → ℕ → Seek → Type 0
IsFound v nodes (Fits a) = IsAssignmentOf v.shape a.w × FitsAt v.shape v.raw v.t a.w
IsFound v nodes (Never used) =
    NoneFits v [] × ((pot : ℕ → ℕ → ℕ → ℕ) → ArePots v pot → used ≡ tree_size (game_of v) pot []) × (used ≤ nodes)
IsFound v nodes Spent = (pot : ℕ → ℕ → ℕ → ℕ) → ArePots v pot → nodes < tree_size (game_of v) pot []

-- a run of one of seven channels, which begins in one of six blocks
abbrev pub IsInPlace : Step → Type 0
IsInPlace s = (s.channel < 7) × (s.run.from < 6)

-- the codes of a channel in a list with six of each
abbrev pub row_of : List ℕ → ℕ → List ℕ
row_of codes c =
    slice_index codes (6 * c) ∷ slice_index codes (6 * c + 1) ∷ slice_index codes (6 * c + 2) ∷ slice_index codes (6 * c + 3)
    ∷ slice_index codes (6 * c + 4) ∷ slice_index codes (6 * c + 5) ∷ []
