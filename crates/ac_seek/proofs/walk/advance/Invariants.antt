use Rattle.std.proofs.Common.{◌≡◌, length}
use Rattle.ac_seek.specs.Walks.{Holds, laters}
use Rattle.ac_seek.specs.Words.{game_of}
use Rattle.ac_seek.proofs.walk.advance.Given as goal

abbrev pub invariant-loop-step : goal.invariant-loop-step
invariant-loop-step g l = record {
  held : Holds (game_of (g.C.RunCosts.offset l.board.table.now)) l.path l.partial;
  same : laters (game_of (g.C.RunCosts.offset l.board.table.now)).kinds l.path ≡ laters (game_of (g.C.RunCosts.offset l.board.table.now)).kinds l.initial.path;
}

abbrev pub decreases-loop-step : goal.decreases-loop-step
decreases-loop-step g l = length l.path
