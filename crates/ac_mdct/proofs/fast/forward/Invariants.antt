use Rattle.std.proofs.Common.{◌≡◌, ◌++◌, length}
use Rattle.ac_mdct.specs.Forward.{coefficient, forward_sum, windowed}
use Rattle.ac_base.specs.Sigma.{Lists}
use Rattle.ac_mdct.proofs.fast.forward.Given as goal

abbrev pub invariant-loop-k : goal.invariant-loop-k
invariant-loop-k l = (length l.out ≡ 256) × Lists l.k (λ k. coefficient (forward_sum (windowed (l.prev ++ l.now)) k)) l.out
