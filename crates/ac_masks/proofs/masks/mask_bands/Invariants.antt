use Rattle.std.proofs.Common.{◌≡◌, ℕ, ◌<◌, ◌≤◌, [], length, slice_index, slice_index_or}
use Rattle.ac_masks.specs.Bases.{base_by}
use Rattle.ac_masks.specs.Densities.{density_in}
use Rattle.ac_masks.specs.Steps.{IsReady}
use Rattle.ac_masks.proofs.masks.mask_bands.Given as goal

abbrev pub invariant-loop-b : goal.invariant-loop-b
invariant-loop-b l = record {
  long : length l.out ≡ 50;
  ready : (i : ℕ) → i < 64 → IsReady l.p l.lead (density_in l.density i) l.from l.b (slice_index l.rows.low i) (slice_index l.rows.fast i) (slice_index l.rows.slow i);
  small : (i : ℕ) → i < 64 → (slice_index l.rows.fast i ≤ 9648) × (slice_index l.rows.slow i ≤ 9648);
  values : (i b : ℕ) → i < 64 → l.from ≤ b → b < l.b → slice_index (slice_index_or l.out b []) i ≡ base_by l.p l.lead l.from (density_in l.density i) b;
  bounds : (i b : ℕ) → slice_index (slice_index_or l.out b []) i ≤ 2232;
}
