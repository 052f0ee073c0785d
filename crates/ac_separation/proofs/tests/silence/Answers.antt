use Rattle.ac_rematrix.proofs.Everywhere.{small_zeros}
use Rattle.ac_separation.proofs.tests.silence.Goals as goal

pub returns : goal.returns
returns c = small_zeros c.zeros.result.c c.zeros.ensures
