use Rattle.std.proofs.Common.{ℕ, ◌<◌, ◌≤◌, ◌^◌, slice_index}
use Rattle.ac_cost.specs.Records.{AtOffset}
use Rattle.ac_bound.specs.Steps.{IsLeastBetween}
use Rattle.ac_ways.specs.Columns.{AreCosts}
use Rattle.ac_ways.proofs.steps.least_of_kinds.Given as goal

abbrev pub invariant-loop-kind : goal.invariant-loop-kind
invariant-loop-kind l = record {
  value : (v : AtOffset) (c j : ℕ) → AreCosts v c l.kinds l.rows j → IsLeastBetween v c l.part l.from l.to l.kind (slice_index l.least j);
  bound : (j : ℕ) → j < 16 → slice_index l.least j ≤ 2 ^ 19;
}
