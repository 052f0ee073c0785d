use Rattle.std.proofs.Common.{◌≡◌, ℕ, ◌<◌, ◌≤◌, ◌⊎◌, slice_index}
use Rattle.ac_alloc.proofs.pointers.silence_bins.Given as goal

abbrev pub invariant-loop-k : goal.invariant-loop-k
invariant-loop-k l =
    ((j : ℕ) → l.start ≤ j → j < l.k → slice_index l.out j ≡ 0) × ((j : ℕ) → (j < l.start) ⊎ (l.k ≤ j) → slice_index l.out j ≡ slice_index l.initial.out j)
