use Rattle.std.proofs.Common.{◌≤◌, ◌<◌, ◌^◌, length, ◌++◌, drop}
use Rattle.ac_bits.specs.Bits.{bits, bits_of}
use Rattle.ac_crc.specs.Remainder.{IsRemainder}
use Rattle.ac_crc.proofs.leading_word.Given as goal

abbrev pub invariant-loop-at : goal.invariant-loop-at
invariant-loop-at l = (l.at ≤ length l.bytes) × (l.word < 2 ^ 16) × IsRemainder (bits l.word 16 ++ bits_of (drop l.at l.bytes)) 0

abbrev pub decreases-loop-at : goal.decreases-loop-at
decreases-loop-at l = l.at
