use Rattle.std.proofs.Common.{◌∙◌, arith}
use Rattle.ac_cost.proofs.Counting.{held-small, held-tally}
use Rattle.ac_cost.proofs.priced.price.Goals as goal

pub count-requires-clause-bound : goal.count-requires-clause-bound
count-requires-clause-bound c =
    λ k is. let e = c.baps.ensures.bins k is.0 is.1 in let small = held-small c.args.listed.now c.args.t k in omega (arith, e, small)

pub returns : goal.returns
returns c =
    λ raw run is.
    c.count.ensures ∙ held-tally c.args.shape.now raw c.args.t c.args.c run c.args.listed.now c.span-span.result c.baps.new.out c.span-span.ensures.value c.baps.ensures.bins is
