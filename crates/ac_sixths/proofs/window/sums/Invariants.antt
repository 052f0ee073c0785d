use Rattle.std.proofs.Common.{◌≡◌, ℕ, ◌+◌, ◌-◌, ◌<◌, length, slice_index}
use Rattle.ac_sixths.specs.Runs.{column, total_from, entry_at}
use Rattle.ac_sixths.proofs.window.sums.Given as goal

abbrev pub invariant-loop-k : goal.invariant-loop-k
invariant-loop-k l = record {
  long : length l.x ≡ 16;
  so_far : (j : ℕ) → j < 16 → slice_index l.x j ≡ total_from (entry_at l.f l.levels (column l.bases l.row) (l.t0 + j)) l.start (l.k - l.start);
}
