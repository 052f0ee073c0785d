use Rattle.std.proofs.Common.{◌≡◌, ◌⊎◌, ℕ, ◌+◌, ◌*◌, ◌-◌, ◌<◌, ◌≤◌, [], length, slice_index, slice_index_or}
use Rattle.ac_alloc.specs.Integration.{logadd, folded}
use Rattle.ac_masks.specs.Densities.{bin_density, band_density}
use Rattle.ac_masks.proofs.densities.add_seven.Given as goal

abbrev pub invariant-loop-i : goal.invariant-loop-i
invariant-loop-i l = record {
  long : length l.sums ≡ 7;
  values : (i : ℕ) → i < l.i → slice_index l.sums i ≡ logadd (slice_index l.initial.sums i) (bin_density (slice_index_or l.levels (l.at + i) []) l.k);
  bounds : (m i : ℕ) → 4080 ≤ m → i < l.i → slice_index l.initial.sums i ≤ m → slice_index l.sums i ≤ m + 64;
  rest : (i : ℕ) → l.i ≤ i → slice_index l.sums i ≡ slice_index l.initial.sums i;
}
