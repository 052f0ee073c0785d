-- Laws of what assignments cost: this project's own.
use Rattle.std.specs.Prelude.{ℕ, ◌*◌, ◌≤◌, List, [], slice_index_or}
use Rattle.ac_base.specs.declared.runs.Run.{Run}
use Rattle.ac_base.specs.declared.shapes.Shape.{Shape}
use Rattle.ac_base.specs.Fit.{FitIn}
use Rattle.ac_expo.specs.Raw.{channel_span}
use Rattle.ac_expo.specs.Greatest.{IsGreatest}
use Rattle.ac_cost.specs.Runs.{IsRunOf, IsAssignmentOf}
use Rattle.ac_cost.specs.Pointers.{run_exps}
use Rattle.ac_cost.specs.Parts.{parts_at, IsFeasible, cheapest_assign}
use Rattle.ac_cost.specs.Sixths.{part_of, run_sixths, assign_sixths}

-- the exponents of a run are the greatest list that can be spelled
abbrev pub RunExponentsAreGreatest : Type 0
RunExponentsAreGreatest =
    (shape : Shape) (raw : List (List (List ℕ))) (c : ℕ) (run : Run) → IsRunOf shape c run
    → IsGreatest run.kind (channel_span shape c) (slice_index_or raw c []) run.from run.to (run_exps shape raw c run)

-- the sixths of an assignment are at most six times its exact bits, in each part
abbrev pub SixthsAreWithinParts : Type 0
SixthsAreWithinParts =
    (shape : Shape) (raw : List (List (List ℕ))) (t part : ℕ) (assign : List (List ℕ)) → IsAssignmentOf shape assign
    → assign_sixths shape raw t part assign ≤ 6 * part_of (parts_at shape raw t assign) part

-- the sixths of a run never fall as the offset rises
abbrev pub SixthsRise : Type 0
SixthsRise =
    (shape : Shape) (raw : List (List (List ℕ))) (part c : ℕ) (run : Run) (t u : ℕ) → IsRunOf shape c run → t ≤ u
    → run_sixths shape raw t part c run ≤ run_sixths shape raw u part c run

-- where some assignment fits at some offset, the cheapest fits at offset 0; so where that doesn't fit, none ever does
abbrev pub FeasibleMakesCheapestFit : Type 0
FeasibleMakesCheapestFit =
    (shape : Shape) (raw : List (List (List ℕ))) (t : ℕ) → IsFeasible shape raw t
    → FitIn shape.words (parts_at shape raw 0 (cheapest_assign shape))
