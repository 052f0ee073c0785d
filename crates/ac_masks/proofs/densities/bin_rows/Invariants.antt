use Rattle.std.proofs.Common.{◌≡◌, ℕ, ◌<◌, ◌≤◌, [], length, slice_index, slice_index_or}
use Rattle.ac_masks.specs.Densities.{bin_density}
use Rattle.ac_masks.proofs.densities.bin_rows.Given as goal

abbrev pub invariant-loop-l : goal.invariant-loop-l
invariant-loop-l l = record {
  long : length l.out ≡ 64;
  values : (i : ℕ) → i < l.l → slice_index l.out i ≡ bin_density (slice_index_or l.levels i []) l.k;
  bounds : (i : ℕ) → slice_index l.out i ≤ 5552;
}
