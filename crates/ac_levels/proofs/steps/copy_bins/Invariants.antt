use Rattle.std.proofs.Common.{◌≡◌, ℕ, ◌+◌, ◌<◌, slice_index}
use Rattle.ac_levels.proofs.steps.copy_bins.Given as goal

abbrev pub invariant-loop-k : goal.invariant-loop-k
invariant-loop-k l = (i : ℕ) → l.start + i < l.k → slice_index l.row (l.start + i) ≡ slice_index l.places (16 + (l.first + i))
