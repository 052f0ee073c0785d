use Rattle.std.proofs.Common.{arith}
use Rattle.ac_base.proofs.AllocationTables.{hearing_small}
use Rattle.ac_base.proofs.allocation_tables.hearing.Goals as goal

pub returns-clause-bound : goal.returns-clause-bound
returns-clause-bound c =
    rw c.hearing_entry.ensures (hearing_small c.args.fscod c.args.band (omega arith))
