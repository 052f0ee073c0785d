use Rattle.ac_reading.proofs.Keeping.{params_same}
use Rattle.ac_reading.proofs.channels.same_params.Goals as goal
