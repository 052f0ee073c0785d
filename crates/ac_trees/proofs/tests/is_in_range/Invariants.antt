use Rattle.std.proofs.Common.{ℕ, ◌+◌, ◌*◌, ◌<◌, ◌≤◌, [], slice_index, slice_index_or}
use Rattle.ac_trees.proofs.tests.is_in_range.Given as goal

abbrev pub invariant-loop-place : goal.invariant-loop-place
invariant-loop-place l =
    (c b k : ℕ) → b < 6 → 6 * c + b < l.place → k < 256 → slice_index (slice_index_or (slice_index_or l.raw.e c []) b []) k ≤ 24
