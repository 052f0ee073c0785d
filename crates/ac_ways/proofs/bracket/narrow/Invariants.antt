use Rattle.std.proofs.Common.{ℕ, ◌+◌, ◌<◌, ◌≤◌, List}
use Rattle.ac_ways.specs.Sixteen.{AreWays, AreTotals, IsBracket, IsOutside}
use Rattle.ac_ways.proofs.bracket.narrow.Given as goal

abbrev pub invariant-loop-j : goal.invariant-loop-j
invariant-loop-j l = record {
  value : (raw : List (List (List ℕ))) (p : List (List (List (List ℕ)))) → AreWays l.shape raw l.t0 p → AreTotals l.shape p l.totals
      → IsBracket l.shape raw l.bracket → IsBracket l.shape raw l.left;
  low : l.bracket.low ≤ l.left.low;
  high : l.left.high ≤ l.bracket.high;
  tried : (j : ℕ) → j < l.j → IsOutside l.left (l.t0 + j);
}
