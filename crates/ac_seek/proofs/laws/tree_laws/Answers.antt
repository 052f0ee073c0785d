use Rattle.ac_seek.proofs.Growing.{bounded, small}
use Rattle.ac_seek.proofs.Truths.{closed-over, closed-fits, children, cover, root-all, size-exists}
use Rattle.ac_seek.proofs.Ones.{one-size}
use Rattle.ac_seek.proofs.Sizes.{stable}
use Rattle.ac_seek.proofs.laws.tree_laws.Goals as goal

pub returns-clause-over : goal.returns-clause-over
returns-clause-over c = closed-over

pub returns-clause-closed : goal.returns-clause-closed
returns-clause-closed c = closed-fits

pub returns-clause-cover : goal.returns-clause-cover
returns-clause-cover c = cover

pub returns-clause-root : goal.returns-clause-root
returns-clause-root c = root-all

pub returns-clause-whole : goal.returns-clause-whole
returns-clause-whole c = stable

pub returns-clause-one : goal.returns-clause-one
returns-clause-one c = one-size

pub returns-clause-exists : goal.returns-clause-exists
returns-clause-exists c = size-exists

pub returns-clause-bound : goal.returns-clause-bound
returns-clause-bound c = bounded

pub returns-clause-small : goal.returns-clause-small
returns-clause-small c = small

pub returns-clause-children : goal.returns-clause-children
returns-clause-children c = children
