use Rattle.std.proofs.Common.{◌≡◌, ◌⊎◌, ℕ, ◌+◌, ◌*◌, ◌-◌, ◌<◌, ◌≤◌, [], length, slice_index, slice_index_or}
use Rattle.ac_alloc.specs.Integration.{logadd, folded}
use Rattle.ac_masks.specs.Densities.{bin_density, band_density}
use Rattle.ac_masks.proofs.densities.put_seven.Given as goal

abbrev pub invariant-loop-l : goal.invariant-loop-l
invariant-loop-l l = record {
  long : length l.out ≡ 64;
  here : (i : ℕ) → l.at ≤ i → i < l.l → slice_index l.out i ≡ slice_index l.sums (i - l.at);
  rest : (i : ℕ) → (i < l.at) ⊎ (l.l ≤ i) → slice_index l.out i ≡ slice_index l.initial.out i;
}
