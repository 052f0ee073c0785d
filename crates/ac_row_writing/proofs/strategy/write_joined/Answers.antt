use Rattle.ac_rows.proofs.EachBits.{joined_bits}
use Rattle.ac_row_writing.proofs.strategy.write_joined.Goals as goal

pub put_bits-requires : goal.put_bits-requires
put_bits-requires c = rw (← joined_bits 0 c.args.values.now c.told-values) c.requires

pub returns-clause-adds : goal.returns-clause-adds
returns-clause-adds c = rw (joined_bits 0 c.args.values.now c.told-values) c.put_bits.ensures.adds

pub returns-clause-len : goal.returns-clause-len
returns-clause-len c = rw (joined_bits 0 c.args.values.now c.told-values) c.put_bits.ensures.len
