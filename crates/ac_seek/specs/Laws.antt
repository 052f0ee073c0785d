-- Laws of the tree: this project's own.
use Rattle.std.specs.Prelude.{◌≡◌, ◌↔◌, ℕ, suc, ◌*◌, ◌^◌, ◌<◌, ◌≤◌, IsTrue, List, [], ◌∷◌}
use Rattle.std.specs.List.{AllByRecursion, Contains}
use Rattle.ac_expo.specs.Raw.{channels}
use Rattle.ac_cost.specs.Parts.{IsFeasible}
use Rattle.ac_cost.specs.Records.{AtOffset}
use Rattle.ac_bound.specs.declared.bounds.Partial.{Partial}
use Rattle.ac_bound.specs.Bounds.{lower_of, IsOver}
use Rattle.ac_bound.specs.Steps.{kinds_of}
use Rattle.ac_bound.specs.Ways.{ArePots}
use Rattle.ac_seek.specs.declared.step.Step.{Step}
use Rattle.ac_seek.specs.Games.{Game, IsNext, IsPath, channel_of, boundary_of, spent}
use Rattle.ac_seek.specs.Trees.{next_steps, closed, size, remaining}
use Rattle.ac_seek.specs.Words.{game_of, NoneFits, IsTreeSize}

-- a partial assignment by where it stands and what it has spent
abbrev pub partial_of : AtOffset → List Step → Partial
partial_of v path = record {
  done = channel_of path;
  at = boundary_of path;
  spent = spent (game_of v) 0 path ∷ spent (game_of v) 1 path ∷ spent (game_of v) 2 path ∷ [];
}

-- what is closed has a lower bound over the room in some part
abbrev pub ClosedIsOver : Type 0
ClosedIsOver =
    (v : AtOffset) (pot : ℕ → ℕ → ℕ → ℕ) (path : List Step)
    → IsTrue (closed (game_of v) pot path) ↔ IsOver v.shape (lower_of v.shape pot (partial_of v path))

-- no assignment that begins with the runs of a closed one fits
abbrev pub ClosedHasNoFit : Type 0
ClosedHasNoFit =
    (v : AtOffset) (pot : ℕ → ℕ → ℕ → ℕ) (path : List Step) → ArePots v pot → IsPath (game_of v) path
    → IsTrue (closed (game_of v) pot path) → NoneFits v path

-- the children decide each run that may come next, and no other
abbrev pub ChildrenAreNext : Type 0
ChildrenAreNext =
    (g : Game) (channel at : ℕ) (s : Step) → channel < g.channels
    → Contains (next_steps g.kinds channel at) s ↔ IsNext g channel at s

-- where none fits that begins with the runs of a child, none fits that begins with those of the node
abbrev pub ChildrenCover : Type 0
ChildrenCover =
    (v : AtOffset) (path : List Step) → channel_of path < channels v.shape
    → AllByRecursion (λ s. NoneFits v (s ∷ path)) (next_steps (kinds_of v.shape) (channel_of path) (boundary_of path))
    → NoneFits v path

-- all assignments begin with no run
abbrev pub RootHasAll : Type 0
RootHasAll = (v : AtOffset) → NoneFits v [] ↔ (IsFeasible v.shape v.raw v.t → ⊥)

-- deeper than the boundaries that remain the tree has nothing
abbrev pub SizeIsWhole : Type 0
SizeIsWhole =
    (g : Game) (pot : ℕ → ℕ → ℕ → ℕ) (n : ℕ) (path : List Step) → remaining g path ≤ n → size g pot (suc n) path ≡ size g pot n path

-- each offset has one size
abbrev pub SizeIsOne : Type 0
SizeIsOne = (v : AtOffset) (m n : ℕ) → IsTreeSize v m → IsTreeSize v n → m ≡ n

abbrev pub SizeExists : Type 0
SizeExists = (v : AtOffset) → (n : ℕ) × IsTreeSize v n

-- at most four times as many for each boundary: 4096 with one coded channel
abbrev pub SizeIsBounded : Type 0
SizeIsBounded = (v : AtOffset) (n : ℕ) → IsTreeSize v n → n ≤ 4 ^ (6 * channels v.shape)

abbrev pub OneChannelIsSmall : Type 0
OneChannelIsSmall = (v : AtOffset) (n : ℕ) → channels v.shape ≡ 1 → IsTreeSize v n → n ≤ 4096
