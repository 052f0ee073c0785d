use Rattle.std.proofs.Common.{arith}
use Rattle.ac_packing.proofs.Costs.{exponents_none, exponents_more}
use Rattle.ac_packing.proofs.parts.block_exponents.Goals as goal

pub loop-c-init : goal.loop-c-init
loop-c-init c = (exponents_none c.args.q.now c.args.b, omega arith)

pub loop-c-preserved : goal.loop-c-preserved
loop-c-preserved c = (
  exponents_more c.args.q.now c.args.b c.loop-c.c c.loop-c.sum c.channel_exponents-sum.result c.loop-c.invariant.0 c.channel_exponents-sum.ensures.value,
  omega (arith, c.loop-c.invariant.1, c.channel_exponents-sum.ensures.bound),
)
