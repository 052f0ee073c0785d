use Rattle.std.proofs.Common.{◌+◌, ◌-◌, arith, refl, rules}
use Rattle.ac_levels.proofs.Filling.{filled_start, filled_more}
use Rattle.ac_levels.proofs.rows.fill_from.Goals as goal

pub loop-b-init : goal.loop-b-init
loop-b-init c = filled_start c.args.blocks.now c.args.from c.args.at c.args.out.now (search rules) (omega arith)

pub loop-b-preserved : goal.loop-b-preserved
loop-b-preserved c =
    filled_more c.args.blocks.now c.args.from c.args.at c.loop-b.b (c.args.at + c.loop-b.b - c.args.from) c.loop-b.row c.raise.new.row c.raise.new.out c.args.out.now c.loop-b.out (omega arith) (omega arith) (omega arith) refl c.raise.ensures.row c.raise.ensures.out c.loop-b.invariant
