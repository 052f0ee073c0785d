use Rattle.std.proofs.Common.{◌≡◌, ◌<◌, ℕ, true, slice_index}
use Rattle.ac_reading.proofs.cells.same_row.Given as goal

abbrev pub invariant-loop-k : goal.invariant-loop-k
invariant-loop-k l = l.same ≡ true → (k : ℕ) → k < l.k → slice_index l.a k ≡ slice_index l.b k
