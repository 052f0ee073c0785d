use Rattle.std.proofs.Common.{◌≡◌, ℕ, ◌+◌, ◌*◌, ◌<◌, length, slice_index}
use Rattle.ac_ways.proofs.costs.costs.Given as goal

abbrev pub invariant-loop-j : goal.invariant-loop-j
invariant-loop-j l = (length l.costs ≡ 16) × ((j : ℕ) → j < l.j → slice_index l.costs j ≡ 6 * l.bits + l.blocks * slice_index l.six j)
