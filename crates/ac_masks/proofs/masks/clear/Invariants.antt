use Rattle.std.proofs.Common.{◌≡◌, ℕ, ◌<◌, ◌≤◌, [], length, slice_index, slice_index_or}
use Rattle.ac_masks.proofs.masks.clear.Given as goal

abbrev pub invariant-loop-b : goal.invariant-loop-b
invariant-loop-b l = record {
  long : length l.out ≡ 50;
  none : (i b : ℕ) → b < l.b → slice_index (slice_index_or l.out b []) i ≡ 0;
}
