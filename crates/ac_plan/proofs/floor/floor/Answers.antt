use Rattle.std.proofs.Common.{arith}
use Rattle.ac_plan.proofs.floor.floor.Goals as goal

pub returns-clause-fits : goal.returns-clause-fits
returns-clause-fits c = c.cheapest.ensures.fits c.args.rows.now.raw c.requires.cheapest

pub returns-clause-above : goal.returns-clause-above
returns-clause-above c = λ t low high. c.loop-t.invariant.none t (omega (arith, low, c.loop-t-test.false)) high
