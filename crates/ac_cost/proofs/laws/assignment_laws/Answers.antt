use Rattle.ac_cost.proofs.Bounding.{within}
use Rattle.ac_cost.proofs.Fewest.{cheapest}
use Rattle.ac_cost.proofs.Exponents.{greatest}
use Rattle.ac_cost.proofs.Pricing.{sixths-rise}
use Rattle.ac_cost.proofs.laws.assignment_laws.Goals as goal

pub returns-clause-greatest : goal.returns-clause-greatest
returns-clause-greatest c = greatest

pub returns-clause-within : goal.returns-clause-within
returns-clause-within c = within

pub returns-clause-rises : goal.returns-clause-rises
returns-clause-rises c = sixths-rise

pub returns-clause-cheapest : goal.returns-clause-cheapest
returns-clause-cheapest c = cheapest
