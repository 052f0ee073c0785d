use Rattle.std.proofs.Common.{ap, ◌++◌, take}
use Rattle.ac_bits.specs.Bits.{bits_of}
use Rattle.ac_bits.proofs.Laws.{bits-zero}
use Rattle.ac_bits.proofs.source.BitSource.new.Goals as goal

pub returns : goal.returns
returns c = ap (λ l. take c.args.bits (l ++ bits_of c.args.bytes.now)) (bits-zero 0)
