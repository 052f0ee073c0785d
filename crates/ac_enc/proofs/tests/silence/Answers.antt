use Rattle.ac_enc.proofs.Silence.{silent_rows}
use Rattle.ac_enc.proofs.tests.silence.Goals as goal

pub returns : goal.returns
returns c = silent_rows 6 1536
