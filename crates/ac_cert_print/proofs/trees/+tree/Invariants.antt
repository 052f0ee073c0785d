use Rattle.ac_cert_print.specs.Pages.{page, Wrote}
use Rattle.ac_cert_print.proofs.Nodes.{opened}
use Rattle.ac_cert_print.proofs.trees.+tree.Given as goal

abbrev pub decreases-tree : goal.decreases-tree
decreases-tree g l = goal.size-tree g l

abbrev pub invariant-loop-child : goal.invariant-loop-child
invariant-loop-child g l =
    Wrote (opened l.child-items l.child-index) (page g.O.Sink.held g.O.Sink.faults l.fn.pen l.fn.out) (page g.O.Sink.held g.O.Sink.faults l.pen l.out)
