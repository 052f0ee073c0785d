use Rattle.std.proofs.Common.{ℕ, refl, arith}
use Rattle.ac_masks.proofs.Banding.{zero_at}
use Rattle.ac_masks.proofs.densities.fold_rows.Goals as goal

pub loop-group-init : goal.loop-group-init
loop-group-init c = record {
  long = refl;
  values = λ (i : ℕ) h. omega arith;
  bounds = λ (i : ℕ). omega (arith, zero_at 64 i);
}
