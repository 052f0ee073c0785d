use Rattle.ac_sixths.proofs.Keyed.{weights_are_sixths}
use Rattle.ac_sixths.proofs.Steps.{steps_are_shared}
use Rattle.ac_sixths.proofs.laws.sixths_laws.Goals as goal

pub returns-clause-weights : goal.returns-clause-weights
returns-clause-weights c = weights_are_sixths

pub returns-clause-steps : goal.returns-clause-steps
returns-clause-steps c = steps_are_shared
