-- Laws of lower bounds: this project's own.
use Rattle.std.specs.Prelude.{◌≡◌, ◌↔◌, ℕ, ◌*◌, ◌<◌, ◌≤◌, List}
use Rattle.ac_base.specs.declared.runs.Run.{Run}
use Rattle.ac_base.specs.declared.shapes.Shape.{Shape}
use Rattle.ac_base.specs.Words.{runs_of}
use Rattle.ac_expo.specs.Raw.{channels}
use Rattle.ac_cost.specs.Records.{AtOffset, at_offset}
use Rattle.ac_cost.specs.Runs.{IsAssignmentOf}
use Rattle.ac_cost.specs.Parts.{parts_at, IsFeasible}
use Rattle.ac_cost.specs.Sixths.{part_of}
use Rattle.ac_bound.specs.declared.bounds.Partial.{Partial}
use Rattle.ac_bound.specs.Ways.{IsWay, IsWordOf, ArePots, IsLeastFrom}
use Rattle.ac_bound.specs.Bounds.{lower_of, Completes}
use Rattle.ac_bound.specs.Roots.{IsClosed, IsRoot}

-- from the start on, the ways of a coded channel are the runs of its words
abbrev pub WaysAreWords : Type 0
WaysAreWords =
    (shape : Shape) (c : ℕ) (runs : List Run) → c < channels shape
    → IsWay shape c 0 runs ↔ ((word : List ℕ) × IsWordOf shape c word × (runs_of word ≡ runs))

-- there are least costs from each boundary on
abbrev pub LeastExists : Type 0
LeastExists =
    (v : AtOffset) (c part at : ℕ) → c < channels v.shape → at ≤ 6 → (m : ℕ) × IsLeastFrom v c part at m

-- the lower bound of a partial assignment is at most six times the exact bits of each assignment that completes it
abbrev pub LowerIsBelow : Type 0
LowerIsBelow =
    (shape : Shape) (raw : List (List (List ℕ))) (t part : ℕ) (pot : ℕ → ℕ → ℕ → ℕ) (partial : Partial) (assign : List (List ℕ))
    → ArePots (at_offset shape raw t) pot → IsAssignmentOf shape assign → part < 3 → partial.done ≤ channels shape
    → Completes shape raw t partial assign → lower_of shape pot partial part ≤ 6 * part_of (parts_at shape raw t assign) part

-- what is closed at an offset is closed at each higher one
abbrev pub ClosedStays : Type 0
ClosedStays = (shape : Shape) (raw : List (List (List ℕ))) (t u : ℕ) → t ≤ u → IsClosed shape raw t → IsClosed shape raw u

-- no offset above the root is feasible
abbrev pub FeasibleIsBelowRoot : Type 0
FeasibleIsBelowRoot =
    (shape : Shape) (raw : List (List (List ℕ))) (r t : ℕ) → IsRoot shape raw r → t ≤ 1023 → IsFeasible shape raw t → t ≤ r
