use Rattle.std.proofs.Common.{◌≡◌, ℕ, ◌<◌, ◌≤◌, max, slice_index}
use Rattle.ac_levels.proofs.rows.raise.Given as goal

abbrev pub invariant-loop-k : goal.invariant-loop-k
invariant-loop-k l =
    ((k : ℕ) → k < l.k → slice_index l.row k ≡ max (slice_index l.fn.row k) (slice_index l.block k))
    × ((k : ℕ) → l.k ≤ k → slice_index l.row k ≡ slice_index l.fn.row k)
    × ((k : ℕ) → k < l.k → slice_index l.out k ≡ slice_index l.row k)
