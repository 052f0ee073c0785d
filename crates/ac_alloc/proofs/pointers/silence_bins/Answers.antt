use Rattle.std.proofs.Common.{ℕ, inl, inr, arith}
use Rattle.ac_alloc.proofs.pointers.silence_bins.Goals as goal

pub returns-clause-rest : goal.returns-clause-rest
returns-clause-rest c =
    λ (k : ℕ) h. elim h [ inl a ↦ c.loop-k.invariant.1 k (inl a) | inr b ↦ c.loop-k.invariant.1 k (inr (omega arith)) ]
