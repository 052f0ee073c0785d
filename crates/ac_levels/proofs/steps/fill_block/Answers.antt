use Rattle.std.proofs.Common.{rules}
use Rattle.ac_levels.proofs.Stepping.{filled_block}
use Rattle.ac_levels.proofs.steps.fill_block.Goals as goal

pub returns-clause-levels : goal.returns-clause-levels
returns-clause-levels c = λ raw block steps.
    filled_block c.args.kind block c.args.n c.first_step-first.result _ c.args.span.now raw c.args.places.now c.smooth.new.even c.spread_out.new.row c.requires.span c.requires.kind c.requires.whole c.requires.bound (search rules) c.from-start.ensures c.first_step-first.ensures.value c.smooth.ensures.spread c.spread_out.ensures steps
