use Rattle.std.proofs.Common.{arith}
use Rattle.ac_rematrix.proofs.Halved.{blocks_more, blocks_start}
use Rattle.ac_rematrix.proofs.halves.halve.Goals as goal

pub loop-b-init : goal.loop-b-init
loop-b-init c = blocks_start c.args.start c.args.end _ _ c.told-left c.told-right

pub loop-b-preserved : goal.loop-b-preserved
loop-b-preserved c =
    blocks_more c.loop-b.b c.args.start c.args.end _ _ c.loop-b.left c.loop-b.right c.halve_row.new.left c.halve_row.new.right c.loop-b-test.true c.loop-b.invariant c.halve_row.ensures

pub returns : goal.returns
returns c = λ b below. c.loop-b.invariant.done b (omega arith)
