use Rattle.std.proofs.Common.{◌≡◌, ℕ, ◌+◌, ◌<◌, ◌≤◌, slice_index}
use Rattle.ac_levels.proofs.lanes.store.Given as goal

abbrev pub invariant-loop-i : goal.invariant-loop-i
invariant-loop-i l =
    ((i : ℕ) → i < l.i → slice_index l.new (l.at + i) ≡ slice_index l.lanes i)
    × ((p : ℕ) → p < l.at → slice_index l.new p ≡ slice_index l.fn.new p)
    × ((p : ℕ) → l.at + l.i ≤ p → slice_index l.new p ≡ slice_index l.fn.new p)
