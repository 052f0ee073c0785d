use Rattle.std.proofs.Common.{arith}
use Rattle.std.proofs.Math.Bool.{xor}
use Rattle.ac_bits.specs.Bits.{bits}
use Rattle.ac_crc.specs.Remainder.{copies, add}
use Rattle.ac_crc.proofs.Tables.{ahead_at, has_ahead, is_remainder}
use Rattle.ac_crc.proofs.table.ahead_three.Goals as goal

pub returns : goal.returns
unfolding has_ahead is_remainder copies add bits xor
returns c = search (arith, ahead_at)
