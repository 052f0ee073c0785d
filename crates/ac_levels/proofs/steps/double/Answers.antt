use Rattle.std.proofs.Common.{arith, rules}
use Rattle.ac_levels.proofs.Placing.{doubled_start, doubled_more}
use Rattle.ac_levels.proofs.steps.double.Goals as goal

pub loop-g-init : goal.loop-g-init
loop-g-init c = doubled_start c.args.old.now c.args.new.now (search rules)

pub loop-g-preserved : goal.loop-g-preserved
loop-g-preserved c = doubled_more c.args.old.now c.loop-g.new c.loop-g.g (omega arith) (omega arith) c.loop-g.invariant
