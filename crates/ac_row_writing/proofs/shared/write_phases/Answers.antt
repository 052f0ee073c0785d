use Rattle.ac_rows.proofs.EachBits.{phases_bits}
use Rattle.ac_row_writing.proofs.shared.write_phases.Goals as goal

pub put_bits-requires : goal.put_bits-requires
put_bits-requires c = rw (← phases_bits 0 c.args.values.now c.told-values) c.requires

pub returns-clause-adds : goal.returns-clause-adds
returns-clause-adds c = rw (phases_bits 0 c.args.values.now c.told-values) c.put_bits.ensures.adds

pub returns-clause-len : goal.returns-clause-len
returns-clause-len c = rw (phases_bits 0 c.args.values.now c.told-values) c.put_bits.ensures.len
