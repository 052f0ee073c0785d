use Rattle.std.proofs.Common.{◌++◌, ◌∙◌, ap}
use Rattle.ac_codec.proofs.Lengths.{flag_bits}
use Rattle.ac_codec.proofs.write.put_bit.Goals as goal

pub returns-clause-adds : goal.returns-clause-adds
returns-clause-adds c = record { whole = c.put.ensures.bits.whole ∙ ap (λ l. c.args.sink.now ++ l) (flag_bits c.args.value) }
