use Rattle.std.proofs.Common.{◌+◌, ◌-◌, arith, refl, rules}
use Rattle.ac_levels.proofs.Placing.{placed_start, placed_more}
use Rattle.ac_levels.proofs.steps.place_bins.Goals as goal

pub loop-k-init : goal.loop-k-init
loop-k-init c = placed_start c.args.row.now c.args.places.now c.args.start c.args.at (search rules) c.requires.blank

pub loop-k-preserved : goal.loop-k-preserved
loop-k-preserved c =
    placed_more c.args.row.now c.loop-k.places c.args.start c.loop-k.k c.args.at (c.args.at + (c.loop-k.k - c.args.start)) c.level.result (omega arith) (omega arith) (omega arith) refl c.level.ensures c.loop-k.invariant
