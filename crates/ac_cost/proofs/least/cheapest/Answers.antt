use Rattle.ac_cost.proofs.Fewest.{cheapest-is}
use Rattle.ac_cost.proofs.least.cheapest.Goals as goal

pub returns : goal.returns
returns c = record {
  value = λ raw. cheapest-is c.args.shape.now raw c.side-side.result c.fewest_exponents-exponents.result c.side-side.ensures.value c.fewest_exponents-exponents.ensures.value;
}
