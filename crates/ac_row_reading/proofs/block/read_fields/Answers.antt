use Rattle.ac_rows.specs.BlockRows.{block_fields}
use Rattle.ac_rows.proofs.Bounds.{known_pair}
use Rattle.ac_row_reading.proofs.block.read_fields.Goals as goal

pub read_groups-requires-clause-range : goal.read_groups-requires-clause-range
read_groups-requires-clause-range c = rw c.known.ensures (known_pair c.args.head.now c.args.earlier.now c.requires.earlier)

pub returns : goal.returns
unfolding block_fields
returns c = rw (← c.full_channels-full.ensures.value, ← c.stereo-stereo.ensures, ← c.known.ensures) c.read_groups.ensures
