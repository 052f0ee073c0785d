use Rattle.ac_dec.proofs.Worth.{silent_bound}
use Rattle.ac_dec.proofs.mantissas.value_row.Goals as goal

pub returns-then-is_silent-clause-bound : goal.returns-then-is_silent-clause-bound
returns-then-is_silent-clause-bound c = silent_bound
