use Rattle.std.proofs.Common.{◌≡◌, ◌<◌, ◌≤◌, ℕ, slice_index}
use Rattle.ac_sixths.specs.Runs.{level_of}
use Rattle.ac_sixths.proofs.held.levels.Given as goal

abbrev pub invariant-loop-k : goal.invariant-loop-k
invariant-loop-k l =
    (j : ℕ) → l.start ≤ j → j < l.k → slice_index l.out j ≡ level_of (slice_index l.exps j)
