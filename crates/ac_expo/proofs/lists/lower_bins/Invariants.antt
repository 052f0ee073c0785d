use Rattle.std.proofs.Common.{◌≡◌, ℕ, ◌<◌, ◌≤◌, min, slice_index}
use Rattle.ac_expo.proofs.lists.lower_bins.Given as goal

abbrev pub invariant-loop-k : goal.invariant-loop-k
invariant-loop-k l =
    ((k : ℕ) → l.span.start ≤ k → k < l.k → slice_index l.bins k ≡ min (slice_index l.fn.bins k) (slice_index l.row k))
    × ((k : ℕ) → l.k ≤ k → slice_index l.bins k ≡ slice_index l.fn.bins k)
