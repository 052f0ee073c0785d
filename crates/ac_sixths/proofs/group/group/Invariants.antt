use Rattle.std.proofs.Common.{◌≡◌, ℕ, ◌+◌, ◌*◌, ◌-◌, ◌<◌, length, slice_index}
use Rattle.ac_base.specs.Allocation.{bndtab_list}
use Rattle.ac_sixths.specs.Runs.{column, total_from, entry_at}
use Rattle.ac_sixths.proofs.group.group.Given as goal

abbrev pub invariant-loop-b : goal.invariant-loop-b
invariant-loop-b g l = record {
  long : length l.x ≡ 16;
  bin : l.a ≡ slice_index bndtab_list l.b;
  so_far : (j : ℕ) → j < 16 → g.row.M * slice_index l.x j ≡ total_from (entry_at l.f l.levels (column l.bases l.row) (l.t0 + j)) (slice_index bndtab_list l.from) (l.a - slice_index bndtab_list l.from);
}
