use Rattle.std.proofs.Common.{ℕ}
use Rattle.ac_masks.proofs.Banding.{zero_at}
use Rattle.ac_masks.proofs.densities.zeros.Goals as goal

pub returns : goal.returns
returns c = λ (l : ℕ). zero_at 64 l
