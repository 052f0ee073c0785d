use Rattle.std.proofs.Common.{◌≡◌, ℕ, ◌<◌, min, length, slice_index}
use Rattle.ac_ways.proofs.steps.lesser.Given as goal

abbrev pub invariant-loop-j : goal.invariant-loop-j
invariant-loop-j l = (length l.least ≡ 16) × ((j : ℕ) → j < l.j → slice_index l.least j ≡ min (slice_index l.a j) (slice_index l.b j))
