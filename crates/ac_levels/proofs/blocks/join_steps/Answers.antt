use Rattle.std.proofs.Common.{arith, refl}
use Rattle.ac_levels.proofs.Reaching.{blank_rows}
use Rattle.ac_levels.proofs.Stepping.{few_rounds, joined}
use Rattle.ac_levels.proofs.blocks.join_steps.Goals as goal

pub loop-b-init : goal.loop-b-init
loop-b-init c = (refl, λ b h. absurd (omega arith), λ b low high. blank_rows b high)

pub pairs-requires-clause-most : goal.pairs-requires-clause-most
pairs-requires-clause-most c = few_rounds c.args.kind c.window-n.result c.args.span.now c.requires.some c.requires.kind c.window-n.ensures.bound

pub returns : goal.returns
returns c = λ raw steps. joined c.args.kind c.window-n.result c.args.span.now raw c.args.old.now c.loop-b.new c.requires.span c.requires.some c.requires.kind c.window-n.ensures.whole c.window-n.ensures.bound (λ b below. c.loop-b.invariant.1 b (omega arith)) steps
