use Rattle.std.proofs.Common.{◌≡◌, ◌⊎◌, ℕ, ◌+◌, ◌*◌, ◌-◌, ◌<◌, ◌≤◌, [], length, slice_index, slice_index_or}
use Rattle.ac_alloc.specs.Integration.{logadd, folded}
use Rattle.ac_masks.specs.Densities.{bin_density, band_density}
use Rattle.ac_masks.proofs.densities.densities.Given as goal

abbrev pub invariant-loop-b : goal.invariant-loop-b
invariant-loop-b l = record {
  long : length l.out ≡ 50;
  values : (i b : ℕ) → i < 63 → b < l.b → slice_index (slice_index_or l.out b []) i ≡ band_density l.start l.end (slice_index_or l.levels i []) b;
  bounds : (i b : ℕ) → slice_index (slice_index_or l.out b []) i ≤ 5552;
}
