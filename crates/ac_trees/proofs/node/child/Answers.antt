use Rattle.std.proofs.Common.{arith}
use Rattle.ac_trees.specs.declared.node.Node.{Node}
use Rattle.ac_trees.proofs.Standing.{next-few, spent-small, child-unfit}
use Rattle.ac_trees.proofs.node.child.Goals as goal

pub after-done-requires : goal.after-done-requires
after-done-requires c = record { channel = next-few c.args.table.now _ _ c.args.step.now c.requires.next }

pub more-requires-clause-few : goal.more-requires-clause-few
more-requires-clause-few c = spent-small c.args.table.now c.args.node.now c.requires.unfit

pub with_code-requires-clause-channel : goal.with_code-requires-clause-channel
with_code-requires-clause-channel c = next-few c.args.table.now _ _ c.args.step.now c.requires.next

pub returns-clause-unfit : goal.returns-clause-unfit
returns-clause-unfit c =
    let new : Node = record { partial = record { done = c.after-done.result.0; at = c.after-done.result.1; spent = c.more.result }; codes = c.with_code.result } in
    child-unfit c.args.table.now c.args.node.now new c.args.step.now c.run_sixths-cost.result c.requires.unfit c.requires.next c.run_sixths-cost.ensures.value c.run_sixths-cost.ensures.bound c.after-done.ensures.channel c.after-done.ensures.boundary c.more.ensures c.with_code.ensures
