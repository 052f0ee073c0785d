use Rattle.std.proofs.Common.{◌≡◌, ℕ, ◌+◌, ◌*◌, ◌-◌, ◌/◌, ◌<◌, length, slice_index}
use Rattle.ac_base.specs.Allocation.{bndtab_list}
use Rattle.ac_sixths.specs.Runs.{column}
use Rattle.ac_sixths.specs.Pairs.{pair_total}
use Rattle.ac_sixths.proofs.pairs.pair_group.Given as goal

abbrev pub invariant-loop-b : goal.invariant-loop-b
invariant-loop-b g l = record {
  long : length l.x ≡ 16;
  bin : l.a ≡ slice_index bndtab_list l.b;
  even : l.a ≡ slice_index bndtab_list l.from + (l.a - slice_index bndtab_list l.from) / 2 * 2;
  so_far : (j : ℕ) → j < 16 → slice_index l.x j ≡ pair_total l.f l.pairs (column l.bases l.row) (l.t0 + j) (slice_index bndtab_list l.from) ((l.a - slice_index bndtab_list l.from) / 2);
}
