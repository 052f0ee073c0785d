use Rattle.std.proofs.Common.{arith, rules}
use Rattle.ac_levels.proofs.Placing.{paired_start, paired_more, paired_end}
use Rattle.ac_levels.proofs.steps.pairs.Goals as goal

pub loop-j-init : goal.loop-j-init
loop-j-init c = paired_start c.args.old.now c.args.new.now (search rules) c.requires.blank

pub loop-j-preserved : goal.loop-j-preserved
loop-j-preserved c =
    paired_more c.args.old.now c.loop-j.new c.pair_lanes.new.new c.loop-j.j (omega arith) (search rules) c.pair_lanes.ensures.inside c.pair_lanes.ensures.before c.pair_lanes.ensures.behind c.loop-j.invariant

pub returns : goal.returns
returns c = paired_end c.args.old.now c.loop-j.new c.loop-j.j c.args.rounds (omega arith) c.loop-j.invariant
