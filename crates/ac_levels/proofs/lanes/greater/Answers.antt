use Rattle.std.proofs.Common.{◌++◌, slice_index}
use Rattle.ac_levels.proofs.Neighbours.{greater_at}
use Rattle.ac_levels.proofs.lanes.greater.Goals as goal

pub returns : goal.returns
returns c = λ i below. greater_at (slice_index (c.args.a ++ c.args.b)) i below
