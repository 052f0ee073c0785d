use Rattle.ac_trees.proofs.Leaving.{none-within}
use Rattle.ac_trees.proofs.offset.unfit.Goals as goal

pub first_unfit-requires : goal.first_unfit-requires
first_unfit-requires c =
    let offset = c.args.offset.now in
    none-within offset.table.now offset.shape.now c.args.node.now c.whole_parts.result c.rooms.result c.requires.offset.same c.requires.unfit c.requires.whole c.whole_parts.ensures c.rooms.ensures.value
