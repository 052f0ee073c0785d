use Rattle.std.proofs.Common.{arith}
use Rattle.ac_base.proofs.AllocationTables.{bands_small, band_starts_before, band_ends_after}
use Rattle.ac_base.proofs.allocation_tables.band_of.Goals as goal

pub returns-clause-bound : goal.returns-clause-bound
returns-clause-bound c = let small = bands_small c.args.bin c.requires in rw c.band_of_entry.ensures (omega (arith, small))

pub returns-clause-starts : goal.returns-clause-starts
returns-clause-starts c = rw c.band_of_entry.ensures (band_starts_before c.args.bin (omega arith))

pub returns-clause-ends : goal.returns-clause-ends
returns-clause-ends c =
    rw c.band_of_entry.ensures (omega (arith, band_ends_after c.args.bin (omega arith)))
