use Rattle.std.proofs.Common.{ℕ, ◌<◌, ◌^◌, pos, slice_index_or, unsigned_abs}
use Rattle.ac_coupling.proofs.whole.tests.is_small_row.Given as goal

abbrev pub invariant-loop-k : goal.invariant-loop-k
invariant-loop-k l = (k : ℕ) → k < l.k → unsigned_abs (slice_index_or l.row k (pos 0)) < 2 ^ 24
