use Rattle.std.proofs.Common.{refl}
use Rattle.ac_noise.specs.Noise.{state_at}
use Rattle.ac_noise.proofs.noise.Noise.new.Goals as goal

pub invariant_of-result : goal.invariant_of-result
unfolding state_at
invariant_of-result c = λ some. refl
