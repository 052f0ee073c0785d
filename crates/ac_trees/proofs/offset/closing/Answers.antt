use Rattle.ac_bound.specs.Ways.{potential}
use Rattle.ac_trees.proofs.Leaving.{closing-is}
use Rattle.ac_trees.proofs.Standing.{partial-is}
use Rattle.ac_trees.proofs.offset.closing.Goals as goal

pub lower-requires : goal.lower-requires
lower-requires c =
    let offset = c.args.offset.now in
    partial-is offset.table.now offset.shape.now c.args.node.now c.requires.offset.same c.requires.unfit

pub returns : goal.returns
returns c = λ path is.
    let offset = c.args.offset.now in
    closing-is offset.table.now offset.shape.now c.requires.offset.same (potential offset.pots.now.p) path c.args.node.now c.lower.result is c.lower.ensures.value c.first_over.result c.first_over.ensures
