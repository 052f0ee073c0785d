use Rattle.std.proofs.Common.{◌≡◌, ℕ, ◌<◌, [], length, slice_index_or}
use Rattle.ac_plan.proofs.Beside.{HasTotal}
use Rattle.ac_plan.proofs.totals.totals.Given as goal

abbrev pub invariant-loop-i : goal.invariant-loop-i
invariant-loop-i g l = record {
  value : (row : ℕ) → row < l.i → HasTotal (g.C.RunCosts.offset l.costs) row (slice_index_or l.totals row []);
  long : length l.totals ≡ 63;
}
