use Rattle.std.proofs.Common.{◌≡◌, ◌<◌, ℕ, length, slice_index_or}
use Rattle.ac_base.specs.Allocation.{bins}
use Rattle.ac_alloc.specs.Integration.{AreExponents}
use Rattle.ac_cost.specs.Rows.{run_of}
use Rattle.ac_cost.specs.Lists.{not_listed, IsListed}
use Rattle.ac_cost.proofs.listed.list_channel.Given as goal

abbrev pub invariant-loop-row : goal.invariant-loop-row
invariant-loop-row l = record {
  done : (row : ℕ) → row < l.row → IsListed l.shape l.raw.e l.c (run_of row) (slice_index_or l.out row not_listed);
  small : (row : ℕ) → row < l.row → AreExponents 0 bins (slice_index_or l.out row not_listed).exps;
  long : length l.out ≡ 63;
}
