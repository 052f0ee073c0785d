use Rattle.ac_crc.proofs.Remainders.{four}
use Rattle.ac_crc.proofs.table.remainder_of_four.Goals as goal

pub returns : goal.returns
returns c =
    four c.args.a c.args.b c.args.c c.args.d _ _ _ _ c.ahead_three.ensures c.ahead_two.ensures c.ahead_one.ensures c.remainder_of.ensures
