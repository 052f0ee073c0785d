use Rattle.std.proofs.Common.{arith}
use Rattle.std.proofs.Math.Bool.{xor}
use Rattle.ac_bits.specs.Bits.{bits}
use Rattle.ac_crc.specs.Remainder.{copies, add}
use Rattle.ac_crc.proofs.Tables.{remainder_at, has_remainders, is_remainder}
use Rattle.ac_crc.proofs.table.remainder_of.Goals as goal

pub returns : goal.returns
unfolding has_remainders is_remainder copies add bits xor
returns c = search (arith, remainder_at)
