use Rattle.std.proofs.Common.{◌≤◌, ◌-◌, length, take}
use Rattle.ac_bits.specs.Bits.{bits_of}
use Rattle.ac_crc.specs.Remainder.{IsRemainder}
use Rattle.ac_crc.proofs.remainder.Given as goal

abbrev pub invariant-fours : goal.invariant-fours
invariant-fours l = (l.at ≤ length l.bytes) × IsRemainder (bits_of (take l.at l.bytes)) l.register

abbrev pub decreases-fours : goal.decreases-fours
decreases-fours l = length l.bytes - l.at

abbrev pub invariant-ones : goal.invariant-ones
invariant-ones l = (l.at ≤ length l.bytes) × IsRemainder (bits_of (take l.at l.bytes)) l.register

abbrev pub decreases-ones : goal.decreases-ones
decreases-ones l = length l.bytes - l.at
