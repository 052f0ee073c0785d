use Rattle.std.proofs.Common.{◌≡◌, ◌⊎◌, ℕ, ◌+◌, ◌*◌, ◌-◌, ◌<◌, ◌≤◌, [], length, slice_index, slice_index_or}
use Rattle.ac_alloc.specs.Integration.{logadd, folded}
use Rattle.ac_masks.specs.Densities.{bin_density, band_density}
use Rattle.ac_masks.proofs.densities.sum_seven.Given as goal

abbrev pub invariant-loop-k : goal.invariant-loop-k
invariant-loop-k l = record {
  long : length l.sums ≡ 7;
  values : (i : ℕ) → i < 7 → slice_index l.sums i ≡ folded (bin_density (slice_index_or l.levels (l.at + i) [])) l.first (l.k - 1 - l.first);
  bounds : (i : ℕ) → i < 7 → slice_index l.sums i ≤ 4080 + 64 * (l.k - 1 - l.first);
}
