use Rattle.ac_base.proofs.Tallies.{sixths_within, join}
use Rattle.ac_base.proofs.ByRuns.{parts_by_runs}
use Rattle.ac_base.proofs.costs.cost_laws.Goals as goal

pub returns : goal.returns
returns c = record { sixths = sixths_within; join = join; parts = parts_by_runs }
