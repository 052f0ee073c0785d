-- The least costs on the way from one boundary back to the one before: what the code computes step by step.
use Rattle.std.specs.Prelude.{◌≡◌, ℕ, ◌+◌, ◌-◌, ◌*◌, ◌^◌, ◌<◌, ◌≤◌, List, [], slice_index, slice_index_or}
use Rattle.ac_base.specs.declared.runs.Run.{Run}
use Rattle.ac_base.specs.declared.shapes.Shape.{Shape}
use Rattle.ac_base.specs.Spans.{greatest_kind}
use Rattle.ac_expo.specs.Raw.{channel_span}
use Rattle.ac_cost.specs.Records.{AtOffset}
use Rattle.ac_cost.specs.Runs.{IsRunOf}
use Rattle.ac_cost.specs.Sixths.{run_sixths}
use Rattle.ac_bound.specs.Least.{IsLeast}

-- the kinds that a coded channel takes
abbrev pub kinds_of : Shape → ℕ → ℕ
kinds_of shape c = greatest_kind (channel_span shape c).lead

-- a run of a kind between two boundaries
abbrev pub between : ℕ → ℕ → ℕ → Run
between from to kind = record { from = from; to = to; kind = kind }

-- a kind that a run can have, below some number
abbrev pub IsKindBelow : ℕ → ℕ → Type 0
IsKindBelow n kind = (1 ≤ kind) × (kind < n)

-- the least sixths of the runs between two boundaries, of the kinds below some number
abbrev pub IsLeastBetween : AtOffset → ℕ → ℕ → ℕ → ℕ → ℕ → ℕ → Type 0
IsLeastBetween v c part from to n m = IsLeast (IsKindBelow n) (λ kind. run_sixths v.shape v.raw v.t part c (between from to kind)) m

-- what is known from each boundary on: by boundary and part
abbrev pub after_of : List (List ℕ) → ℕ → ℕ → ℕ
after_of rows at part = slice_index (slice_index_or rows at []) part

-- a run that begins at a boundary and ends below some number
pub record IsRunBelow (shape : Shape) (c at n : ℕ) (run : Run) : Type 0 where
  pub is_run : IsRunOf shape c run
  pub starts : run.from ≡ at
  pub ends : run.to < n

-- the least sixths of such runs with what is known from their ends on
abbrev pub IsLeastOn : AtOffset → ℕ → ℕ → ℕ → ℕ → (ℕ → ℕ) → ℕ → Type 0
IsLeastOn v c part at n after m =
    IsLeast (IsRunBelow v.shape c at n) (λ run. run_sixths v.shape v.raw v.t part c run + after run.to) m

-- what is known isn't more than that many runs cost
abbrev pub AreFewFrom : ℕ → List (List ℕ) → Type 0
AreFewFrom at rows = (k part : ℕ) → at ≤ k → k ≤ 6 → part < 3 → after_of rows k part ≤ (6 - k) * 2 ^ 19
