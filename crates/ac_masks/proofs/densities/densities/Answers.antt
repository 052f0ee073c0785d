use Rattle.std.proofs.Common.{ℕ, refl, arith}
use Rattle.ac_masks.proofs.Banding.{zeros_at}
use Rattle.ac_masks.proofs.densities.densities.Goals as goal

pub loop-b-init : goal.loop-b-init
loop-b-init c = record {
  long = refl;
  values = λ (i b : ℕ) h m. omega arith;
  bounds = λ (i b : ℕ). omega (arith, zeros_at 50 64 b i);
}
