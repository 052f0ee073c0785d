-- Which plans of a frame are lawful: this project's own.
use Rattle.std.specs.Prelude.{◌≡◌, ℕ, ◌+◌, ◌-◌, ◌<◌, ◌≤◌, List}
use Rattle.ac_base.specs.declared.shapes.Shape.{Shape}
use Rattle.ac_base.specs.Sigma.{sum_below}
use Rattle.ac_cost.specs.Parts.{FitsAt}
use Rattle.ac_expo.specs.Raw.{channels}
use Rattle.ac_cost.specs.Records.{at_offset}
use Rattle.ac_cost.specs.Runs.{IsAssignmentOf}
use Rattle.ac_bound.specs.Roots.{IsRoot}
use Rattle.ac_seek.specs.Words.{IsTreeSize}
pub use Rattle.ac_plan.specs.Best.{NoneFitsAbove, IsBest}
use Rattle.ac_plan.specs.declared.answer.Plan.{Plan}
use Rattle.ac_plan.specs.declared.answer.Mark.{Mark}
use Rattle.ac_plan.specs.declared.answer.Mark.TheVariants.{Best, Bounded}
use Rattle.ac_plan.specs.Uniform.{IsUniformOf, IsFloor, NoneUniform}

-- how many nodes the trees of n offsets from one on have
abbrev pub nodes_from : (ℕ → ℕ) → ℕ → ℕ → ℕ
nodes_from size u n = sum_below n (λ i. size (u + i))

-- the trees from an offset up to the root have more nodes than the budget
pub record AreOver (shape : Shape) (raw : List (List (List ℕ))) (nodes u r : ℕ) : Type 0 where
  pub size : ℕ → ℕ
  pub sizes : (t : ℕ) → u ≤ t → t ≤ r → IsTreeSize (at_offset shape raw t) (size t)
  pub over : nodes < nodes_from size u (r + 1 - u)

-- the search of a frame with several coded channels was cut short at an offset up to the root: nothing fits above it, and the answer is
-- no less than the floor
pub record IsCutShort (shape : Shape) (raw : List (List (List ℕ))) (nodes s u : ℕ) : Type 0 where
  pub several : 2 ≤ channels shape
  pub floor : ℕ
  pub root : ℕ
  pub is_floor : IsFloor shape raw floor
  pub is_root : IsRoot shape raw root
  pub least : floor ≤ s
  pub below : s < u
  pub within : u ≤ root
  pub none_above : NoneFitsAbove shape raw u
  pub spent : AreOver shape raw nodes u root

-- what a mark promises of an offset, by a budget of nodes
abbrev pub IsMarked : Shape → List (List (List ℕ)) → ℕ → ℕ → Mark → Type 0
IsMarked shape raw nodes s Best = IsBest shape raw s
IsMarked shape raw nodes s (Bounded upper) = IsCutShort shape raw nodes s upper

-- the plans that may be answered within a budget of nodes: the assignment fits at the offset, and the mark is true of it
pub record IsLawful (shape : Shape) (raw : List (List (List ℕ))) (nodes : ℕ) (plan : Plan) : Type 0 where
  pub within : plan.offset ≤ 1023
  pub is_assignment : IsAssignmentOf shape plan.assign.w
  pub fits : FitsAt shape raw plan.offset plan.assign.w
  pub marked : IsMarked shape raw nodes plan.offset plan.mark

-- ---- what the code answers where the budget is spent

-- the mark by the offset at which it was
abbrev pub IsMarkedAt : ℕ → ℕ → Mark → Type 0
IsMarkedAt t s Best = s ≡ t
IsMarkedAt t s (Bounded upper) = (upper ≡ t) × (s < t)

-- the greatest offset up to that one at which a uniform assignment fits
pub record IsUniformPlan (shape : Shape) (raw : List (List (List ℕ))) (t : ℕ) (plan : Plan) : Type 0 where
  pub within : plan.offset ≤ t
  pub is_uniform : IsUniformOf shape plan.assign.w
  pub fits : FitsAt shape raw plan.offset plan.assign.w
  pub none_between : NoneUniform shape raw plan.offset t
  pub marked : IsMarkedAt t plan.offset plan.mark
