use Rattle.std.proofs.Common.{ℕ}
use Rattle.ac_coupling.proofs.Rising.{at_most}
use Rattle.ac_coupling.proofs.factors.nearest.Goals as goal

pub returns-else-limit-lt-MOST-clause-greatest : goal.returns-else-limit-lt-MOST-clause-greatest
returns-else-limit-lt-MOST-clause-greatest c = λ (exp mant : ℕ) e m within. at_most exp mant e m
