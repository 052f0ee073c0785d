use Rattle.ac_bits.proofs.Laws.{bits-zero}
use Rattle.ac_bits.proofs.sink.BitSink.new.Goals as goal

pub returns : goal.returns
returns c = bits-zero 0
