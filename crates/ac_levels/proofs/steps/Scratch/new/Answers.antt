use Rattle.ac_levels.proofs.Reaching.{zeros}
use Rattle.ac_levels.proofs.steps.Scratch.new.Goals as goal

pub returns-clause-odd : goal.returns-clause-odd
returns-clause-odd c = zeros 288

pub returns-clause-even : goal.returns-clause-even
returns-clause-even c = zeros 288
