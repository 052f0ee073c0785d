use Rattle.ac_rows.proofs.ZippedBits.{offsets_bits}
use Rattle.ac_row_writing.proofs.allocation.write_offsets.Goals as goal

pub write_each-requires-clause-room : goal.write_each-requires-clause-room
write_each-requires-clause-room c = rw (← offsets_bits 0 c.args.offsets.now c.args.gains.now c.told-offsets) c.requires.room

pub returns-clause-adds : goal.returns-clause-adds
returns-clause-adds c = rw (offsets_bits 0 c.args.offsets.now c.args.gains.now c.told-offsets) c.write_each.ensures.adds

pub returns-clause-len : goal.returns-clause-len
returns-clause-len c = rw (offsets_bits 0 c.args.offsets.now c.args.gains.now c.told-offsets) c.write_each.ensures.len
