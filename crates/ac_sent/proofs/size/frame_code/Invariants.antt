use Rattle.std.proofs.Common.{◌<◌, ℕ}
use Rattle.ac_sent.specs.Asked.{IsSizeCode}
use Rattle.ac_sent.proofs.size.frame_code.Given as goal

-- no code so far has this size
abbrev pub invariant-loop-code : goal.invariant-loop-code
invariant-loop-code l = (k : ℕ) → k < l.code → IsSizeCode l.fscod l.words k → ⊥
