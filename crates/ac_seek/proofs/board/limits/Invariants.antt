use Rattle.std.proofs.Common.{◌≡◌, ℕ, ◌<◌, [], length, slice_index_or}
use Rattle.ac_bound.specs.Ways.{potential}
use Rattle.ac_seek.specs.Boards.{HasLimit}
use Rattle.ac_seek.proofs.board.limits.Given as goal

abbrev pub invariant-loop-place : goal.invariant-loop-place
invariant-loop-place l = record {
  value : (place : ℕ) → place < l.place → HasLimit l.shape (potential l.pots.p) place (slice_index_or l.limits place []);
  long : length l.limits ≡ 48;
}
