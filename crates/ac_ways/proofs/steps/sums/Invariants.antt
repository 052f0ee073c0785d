use Rattle.std.proofs.Common.{◌≡◌, ℕ, ◌+◌, ◌<◌, length, slice_index}
use Rattle.ac_ways.proofs.steps.sums.Given as goal

abbrev pub invariant-loop-j : goal.invariant-loop-j
invariant-loop-j l = (length l.sums ≡ 16) × ((j : ℕ) → j < l.j → slice_index l.sums j ≡ slice_index l.a j + slice_index l.b j)
