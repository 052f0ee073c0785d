use Rattle.std.proofs.Common.{arith}
use Rattle.ac_base.proofs.AllocationTables.{starts_small}
use Rattle.ac_base.proofs.allocation_tables.band_start.Goals as goal

pub returns-clause-bound : goal.returns-clause-bound
returns-clause-bound c = rw c.band_start_entry.ensures (starts_small c.args.b (omega arith))
