use Rattle.std.proofs.Common.{arith}
use Rattle.ac_crc.proofs.Remainders.{enters_front}
use Rattle.ac_crc.proofs.enter_front.Goals as goal

pub returns : goal.returns
returns c = λ l a. enters_front l c.args.word c.args.byte _ (omega arith) a c.leading.ensures
