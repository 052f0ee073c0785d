use Rattle.std.proofs.Common.{◌≡◌, ◌⊎◌, ℕ, ◌+◌, ◌*◌, ◌-◌, ◌<◌, ◌≤◌, [], length, slice_index, slice_index_or}
use Rattle.ac_alloc.specs.Integration.{logadd, folded}
use Rattle.ac_masks.specs.Densities.{bin_density, band_density}
use Rattle.ac_masks.proofs.densities.fold_rows.Given as goal

abbrev pub invariant-loop-group : goal.invariant-loop-group
invariant-loop-group l = record {
  long : length l.out ≡ 64;
  values : (i : ℕ) → i < 7 * l.group → slice_index l.out i ≡ folded (bin_density (slice_index_or l.levels i [])) l.first (l.last - l.first);
  bounds : (i : ℕ) → slice_index l.out i ≤ 5552;
}
