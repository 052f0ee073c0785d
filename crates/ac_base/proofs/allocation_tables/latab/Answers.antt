use Rattle.ac_base.proofs.AllocationTables.{latab_small}
use Rattle.ac_base.proofs.allocation_tables.latab.Goals as goal

pub returns-clause-bound : goal.returns-clause-bound
returns-clause-bound c = rw c.latab_entry.ensures (latab_small c.args.i c.ranges.i.fits)
