use Rattle.std.proofs.Common.{◌≡◌, ◌<◌, ℕ, true, slice_index}
use Rattle.ac_dec.proofs.mantissas.is_silent.Given as goal

abbrev pub invariant-loop-k : goal.invariant-loop-k
invariant-loop-k l = l.none ≡ true → (k : ℕ) → k < l.k → slice_index l.baps k ≡ 0
