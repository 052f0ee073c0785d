use Rattle.std.proofs.Common.{◌≡◌, ℕ, ◌+◌, []}
use Rattle.ac_bound.specs.Ways.{ArePots}
use Rattle.ac_seek.specs.Trees.{tree_size}
use Rattle.ac_seek.specs.Walks.{Holds, owed, NothingLeft}
use Rattle.ac_seek.specs.Words.{game_of, FitsHere, NoneFits}
use Rattle.ac_seek.proofs.search.walk.Given as goal

abbrev pub invariant-loop-before : goal.invariant-loop-before
invariant-loop-before g l = record {
  known : l.known ≡ g.C.RunCosts.offset l.board.table.now;
  held : Holds (game_of (g.C.RunCosts.offset l.board.table.now)) l.path l.partial;
  count : (pot : ℕ → ℕ → ℕ → ℕ) → ArePots (g.C.RunCosts.offset l.board.table.now) pot
      → l.before + owed (game_of (g.C.RunCosts.offset l.board.table.now)) pot l.path ≡ tree_size (game_of (g.C.RunCosts.offset l.board.table.now)) pot [];
  left : NothingLeft (game_of (g.C.RunCosts.offset l.board.table.now)) (FitsHere (g.C.RunCosts.offset l.board.table.now)) l.path → NoneFits (g.C.RunCosts.offset l.board.table.now) [];
}
