use Rattle.std.proofs.Common.{ap, arith}
use Rattle.ac_base.specs.declared.sizes.Parts.{Parts}
use Rattle.ac_cost.proofs.Sides.{sides-small}
use Rattle.ac_cost.proofs.blocks.side.Goals as goal

pub returns-clause-front : goal.returns-clause-front
returns-clause-front c =
    let e = ap (λ (p : Parts). p.front) c.side_bits.ensures.value in omega (arith, e, (sides-small c.args.shape.now).0)

pub returns-clause-total : goal.returns-clause-total
returns-clause-total c =
    let e = ap (λ (p : Parts). p.total) c.side_bits.ensures.value in omega (arith, e, (sides-small c.args.shape.now).1)
