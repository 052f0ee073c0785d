use Rattle.ac_base.proofs.Stretches.{tile, are_stretches, each_stretch}
use Rattle.ac_base.proofs.Assignments.{uniform}
use Rattle.ac_base.proofs.runs.run_laws.Goals as goal

pub returns : goal.returns
returns c = record { tile = tile; stretches = are_stretches; all = each_stretch; uniform = uniform }
