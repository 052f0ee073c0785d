use Rattle.ac_bits.proofs.Laws.{num-bits, bits-num}
use Rattle.ac_bits.proofs.inverse.bits_laws.Goals as goal

pub returns : goal.returns
returns c = record { number = num-bits; bits = bits-num }
