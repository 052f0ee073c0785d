use Rattle.std.proofs.Common.{ℕ, ◌<◌, ◌≤◌, ◌-◌, ◌*◌, ◌^◌, slice_index}
use Rattle.ac_bound.specs.Steps.{IsLeastOn, after_of}
use Rattle.ac_bound.proofs.steps.least_at.Given as goal

abbrev pub invariant-loop-to : goal.invariant-loop-to
invariant-loop-to l = record {
  value : (part : ℕ) → part < 3 → IsLeastOn l.table l.c part l.at l.to (λ k. after_of l.after k part) (slice_index l.least part);
  bound : (part : ℕ) → part < 3 → slice_index l.least part ≤ (6 - l.at) * 2 ^ 19;
}
