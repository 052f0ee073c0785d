use Rattle.std.proofs.Common.{◌≡◌, ℕ, ◌<◌, ◌≤◌, ◌+◌, ◌*◌, ◌^◌, drop, slice_index}
use Rattle.ac_base.specs.Words.{runs_of}
use Rattle.ac_cost.specs.Records.{AtOffset}
use Rattle.ac_plan.specs.Totals.{AreTotals, runs_beside}
use Rattle.ac_plan.proofs.totals.sixths.Given as goal

abbrev pub invariant-loop-run : goal.invariant-loop-run
invariant-loop-run l = record {
  value : (v : AtOffset) (part : ℕ) → AreTotals v l.totals → part < 3
      → slice_index l.sixths part + runs_beside v part (drop l.run-index (runs_of l.word)) ≡ slice_index l.sides part + runs_beside v part (runs_of l.word);
  bound : (part : ℕ) → part < 3 → slice_index l.sixths part ≤ 6 * 2 ^ 32 + l.run-index * 2 ^ 22;
}
