use Rattle.std.proofs.Common.{ℕ, ◌<◌, ◌≤◌, slice_index_or}
use Rattle.ac_frame.proofs.tests.drawn.is_small_channel.Given as goal

abbrev pub invariant-loop-k : goal.invariant-loop-k
invariant-loop-k l = (k : ℕ) → k < l.k → ((slice_index_or l.row k (record { exp = 0; mant = 0 })).exp ≤ 15) × ((slice_index_or l.row k (record { exp = 0; mant = 0 })).mant ≤ 15)
