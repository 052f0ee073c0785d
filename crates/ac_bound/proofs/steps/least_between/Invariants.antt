use Rattle.std.proofs.Common.{ℕ, ◌<◌, ◌≤◌, ◌^◌, slice_index}
use Rattle.ac_bound.specs.Steps.{IsLeastBetween}
use Rattle.ac_bound.proofs.steps.least_between.Given as goal

abbrev pub invariant-loop-kind : goal.invariant-loop-kind
invariant-loop-kind l = record {
  value : (part : ℕ) → part < 3 → IsLeastBetween l.table l.c part l.from l.to l.kind (slice_index l.least part);
  bound : (part : ℕ) → part < 3 → slice_index l.least part ≤ 2 ^ 19;
}
