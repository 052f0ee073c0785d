use Rattle.ac_expo.proofs.Spread.{downward-spread}
use Rattle.ac_expo.proofs.smooth.smooth.Goals as goal

pub returns : goal.returns
returns c = downward-spread c.args.steps.now c.loop-k-2.steps c.loop-k-2.k c.loop-k-2-test.false c.loop-k-2.invariant
