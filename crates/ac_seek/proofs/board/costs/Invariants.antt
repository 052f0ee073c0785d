use Rattle.std.proofs.Common.{◌≡◌, ℕ, ◌<◌, [], length, slice_index_or}
use Rattle.ac_seek.specs.Boards.{HasCost, AreSmall}
use Rattle.ac_seek.proofs.board.costs.Given as goal

abbrev pub invariant-loop-place : goal.invariant-loop-place
invariant-loop-place g l = record {
  value : (place : ℕ) → place < l.place → HasCost (g.C.RunCosts.offset l.table) place (slice_index_or l.costs place []);
  small : AreSmall l.costs;
  long : length l.costs ≡ 882;
}
