use Rattle.ac_cost.specs.Records.{at_offset}
use Rattle.ac_plan.proofs.Passing.{never_spent}
use Rattle.ac_plan.proofs.search.find_one.Goals as goal

pub returns-in-Spent-clause-none : goal.returns-in-Spent-clause-none
returns-in-Spent-clause-none c = λ e f.
    never_spent (at_offset c.args.shape.now c.args.rows.now.raw c.args.t) c.requires.one c.in-Spent.ensures.value
