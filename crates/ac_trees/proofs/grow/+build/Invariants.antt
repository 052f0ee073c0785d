use Rattle.std.proofs.Common.{◌-◌, ◌*◌, length, IfSome}
use Rattle.ac_expo.specs.Raw.{channels}
use Rattle.ac_bound.specs.Ways.{potential}
use Rattle.ac_seek.specs.Games.{IsNext}
use Rattle.ac_seek.specs.Words.{game_of}
use Rattle.ac_trees.proofs.Growing.{Grown, steps_of}
use Rattle.ac_trees.proofs.grow.+build.Given as goal

abbrev pub decreases-build : goal.decreases-build
decreases-build l = 6 * (channels l.offset.now.table.now.shape - l.node.now.partial.done) - l.node.now.partial.at

abbrev pub invariant-loop-next : goal.invariant-loop-next
invariant-loop-next l = record {
  next : IfSome l.next (IsNext (game_of l.offset.table.now) l.node.partial.done l.node.partial.at);
  grown : Grown l.offset.table.now (potential l.offset.pots.now.p) l.node l.trees l.next;
}

abbrev pub decreases-loop-next : goal.decreases-loop-next
decreases-loop-next l = length (steps_of l.offset.table.now l.next)
