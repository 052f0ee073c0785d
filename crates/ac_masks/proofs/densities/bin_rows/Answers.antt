use Rattle.std.proofs.Common.{ℕ, refl, arith}
use Rattle.ac_masks.proofs.Banding.{zero_at}
use Rattle.ac_masks.proofs.densities.bin_rows.Goals as goal

pub loop-l-init : goal.loop-l-init
loop-l-init c = record {
  long = refl;
  values = λ (i : ℕ) h. omega arith;
  bounds = λ (i : ℕ). omega (arith, zero_at 64 i);
}
