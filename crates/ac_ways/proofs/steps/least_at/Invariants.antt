use Rattle.std.proofs.Common.{ℕ, ◌<◌, ◌≤◌, ◌-◌, ◌*◌, ◌^◌, slice_index}
use Rattle.ac_cost.specs.Records.{AtOffset}
use Rattle.ac_bound.specs.Steps.{IsLeastOn}
use Rattle.ac_ways.specs.Columns.{entry_of, AreCosts}
use Rattle.ac_ways.proofs.steps.least_at.Given as goal

abbrev pub invariant-loop-to : goal.invariant-loop-to
invariant-loop-to l = record {
  value : (v : AtOffset) (c j : ℕ) → AreCosts v c l.kinds l.rows j
      → IsLeastOn v c l.part l.at l.to (λ k. entry_of l.after k j) (slice_index l.least j);
  bound : (j : ℕ) → j < 16 → slice_index l.least j ≤ (6 - l.at) * 2 ^ 19;
}
