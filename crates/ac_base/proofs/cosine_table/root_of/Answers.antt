use Rattle.ac_base.proofs.Rules.{root_is, root_bound}
use Rattle.ac_base.proofs.cosine_table.root_of.Goals as goal

pub returns-clause-value : goal.returns-clause-value
returns-clause-value c = root_is _ _ c.ranges.x.fits c.isqrt.ensures.at_most c.isqrt.ensures.greatest

pub returns-clause-bound : goal.returns-clause-bound
returns-clause-bound c = λ small. root_bound _ _ c.isqrt.ensures.at_most small
