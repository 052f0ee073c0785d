use Rattle.std.proofs.Common.{arith}
use Rattle.ac_base.proofs.AllocationTables.{baps_small}
use Rattle.ac_base.proofs.allocation_tables.baptab.Goals as goal

pub returns-clause-bound : goal.returns-clause-bound
returns-clause-bound c = rw c.baptab_entry.ensures (baps_small c.args.a (omega arith))
