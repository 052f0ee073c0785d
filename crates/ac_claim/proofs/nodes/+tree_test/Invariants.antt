use Rattle.std.proofs.Common.{◌≡◌, IfSome}
use Rattle.ac_bound.specs.Ways.{potential}
use Rattle.ac_seek.specs.Games.{IsNext, channel_of, boundary_of}
use Rattle.ac_seek.specs.Words.{game_of}
use Rattle.ac_claim.specs.Trees.{tree_no}
use Rattle.ac_claim.proofs.Children.{rest}
use Rattle.ac_claim.proofs.nodes.+tree_test.Given as goal

abbrev pub decreases-tree_test : goal.decreases-tree_test
decreases-tree_test l = goal.size-tree_test l

abbrev pub invariant-loop-child : goal.invariant-loop-child
invariant-loop-child l = record {
  path : l.path ≡ l.initial.path;
  next : IfSome l.next (IsNext (game_of l.basis.table.now) (channel_of l.path) (boundary_of l.path));
  rest : rest l.basis.table.now (potential l.basis.pots.now.p) l.child-items l.child-index l.next l.path ≡ tree_no l.basis.table.now (potential l.basis.pots.now.p) l.tree l.path;
}
