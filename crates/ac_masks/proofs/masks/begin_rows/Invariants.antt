use Rattle.std.proofs.Common.{◌≡◌, ℕ, ◌-◌, ◌<◌, length, slice_index}
use Rattle.ac_alloc.specs.Excitation.{first_rise}
use Rattle.ac_masks.specs.Densities.{density_in}
use Rattle.ac_masks.proofs.masks.begin_rows.Given as goal

abbrev pub invariant-loop-n : goal.invariant-loop-n
invariant-loop-n l = record {
  long : length l.begin ≡ 64;
  starts : (i : ℕ) → i < 64 → slice_index l.begin i ≡ first_rise (density_in l.density i) (l.end - l.n) l.n;
}
