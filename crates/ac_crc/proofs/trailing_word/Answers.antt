use Rattle.ac_bits.specs.Bits.{bits_of}
use Rattle.ac_crc.proofs.Remainders.{followed, one_trailing}
use Rattle.ac_crc.proofs.trailing_word.Goals as goal

pub returns-clause-none_left : goal.returns-clause-none_left
returns-clause-none_left c = followed (bits_of c.args.bytes.now) c.remainder.result c.remainder.ensures.is_remainder

pub returns-clause-only : goal.returns-clause-only
returns-clause-only c = λ u h b. one_trailing (bits_of c.args.bytes.now) c.remainder.result u c.remainder.ensures.is_remainder h b
