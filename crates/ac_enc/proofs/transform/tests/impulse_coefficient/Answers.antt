use Rattle.ac_enc.proofs.Silence.{silent}
use Rattle.ac_enc.proofs.transform.tests.impulse_coefficient.Goals as goal

pub transform-requires-clause-last : goal.transform-requires-clause-last
transform-requires-clause-last g c = silent 256
