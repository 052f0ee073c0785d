use Rattle.std.proofs.Common.{◌≡◌, ℕ, ◌+◌, ◌<◌, ◌≤◌, slice_index}
use Rattle.ac_sixths.specs.Pairs.{pair_of}
use Rattle.ac_sixths.proofs.pairs.pair_codes.Given as goal

abbrev pub invariant-loop-k : goal.invariant-loop-k
invariant-loop-k l = record {
  values : (j : ℕ) → l.start ≤ j → j < l.k → slice_index l.out j ≡ pair_of (slice_index l.levels j) (slice_index l.levels (j + 1));
  bound : (j : ℕ) → l.start ≤ j → j < l.k → slice_index l.out j ≤ 4320;
}
