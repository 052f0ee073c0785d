use Rattle.std.proofs.Common.{◌≡◌, ◌<◌, ℕ, List, [], length, slice_index_or}
use Rattle.ac_cost.specs.Lists.{AreListed}
use Rattle.ac_cost.specs.Prices.{ArePriced}
use Rattle.ac_cost.proofs.priced.price_channels.Given as goal

abbrev pub invariant-loop-c : goal.invariant-loop-c
invariant-loop-c l = record {
  done : (c : ℕ) → c < l.c → (raw : List (List (List ℕ))) → AreListed l.shape raw c (slice_index_or l.lists c [])
      → ArePriced l.shape raw l.t c (slice_index_or l.out c []);
  long : length l.out ≡ 7;
}
