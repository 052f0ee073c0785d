use Rattle.ac_bits.proofs.Laws.{bits-zero}
use Rattle.ac_mant.proofs.pen.Pen.new.Goals as goal

pub returns : goal.returns
returns c = bits-zero 0
