use Rattle.std.proofs.Common.{◌∙◌, ◌≡◌, ◌-◌, ◌*◌, min, ap, arith}
use Rattle.ac_bound.specs.Steps.{between}
use Rattle.ac_ways.proofs.Counted.{counted}
use Rattle.ac_ways.proofs.costs.blocks.Goals as goal

pub returns-in-0-clause-value : goal.returns-in-0-clause-value
returns-in-0-clause-value c kind cost =
    let e : min c.args.to 2 - min c.args.from 2 ≡ c.from.result = omega arith in
    rw c.in-0.is (counted 2 (between c.args.from c.args.to kind) cost c.requires.order ∙ ap (λ k. k * cost) e)

pub returns-in-1-clause-value : goal.returns-in-1-clause-value
returns-in-1-clause-value c kind cost =
    let e : min c.args.to 6 - min c.args.from 6 ≡ c.from-in-1.result = omega (arith, c.requires.order, c.requires.end) in
    rw c.in-1.is (counted 6 (between c.args.from c.args.to kind) cost c.requires.order ∙ ap (λ k. k * cost) e)
