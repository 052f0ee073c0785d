use Rattle.ac_claim.proofs.Claiming.{passes-claim}
use Rattle.ac_claim.proofs.Passing.{passed-bound, rules-out}
use Rattle.ac_claim.proofs.Trusting.{tree-true}
use Rattle.ac_claim.proofs.laws.certificate_laws.Goals as goal

pub returns-clause-bound : goal.returns-clause-bound
returns-clause-bound c = passed-bound

pub returns-clause-above : goal.returns-clause-above
returns-clause-above c = rules-out

pub returns-clause-tree : goal.returns-clause-tree
returns-clause-tree c = tree-true

pub returns-clause-claim : goal.returns-clause-claim
returns-clause-claim c = passes-claim
