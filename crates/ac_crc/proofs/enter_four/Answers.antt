use Rattle.ac_crc.proofs.Remainders.{enters_four}
use Rattle.ac_crc.proofs.enter_four.Goals as goal

pub returns : goal.returns
returns c = λ l x. enters_four l c.args.register c.args.a c.args.b c.args.c c.args.d _ x c.remainder_of_four.ensures
