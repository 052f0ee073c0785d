use Rattle.ac_rows.proofs.ZippedBits.{coordinates_bits}
use Rattle.ac_row_writing.proofs.shared.write_coordinates.Goals as goal

pub write_each-requires-clause-room : goal.write_each-requires-clause-room
write_each-requires-clause-room c = rw (← coordinates_bits 0 c.args.exps.now c.args.mants.now c.told-exps) c.requires.room

pub returns-clause-adds : goal.returns-clause-adds
returns-clause-adds c = rw (coordinates_bits 0 c.args.exps.now c.args.mants.now c.told-exps) c.write_each.ensures.adds

pub returns-clause-len : goal.returns-clause-len
returns-clause-len c = rw (coordinates_bits 0 c.args.exps.now c.args.mants.now c.told-exps) c.write_each.ensures.len
