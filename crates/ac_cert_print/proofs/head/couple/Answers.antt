use Rattle.std.proofs.Common.{ap}
use Rattle.ac_cert_text.specs.Codec.{number, absent, before, present, fork, pair}
use Rattle.ac_cert_text.specs.Text.{couple}
use Rattle.ac_cert_print.proofs.Writing.{then}
use Rattle.ac_cert_print.proofs.Spelling.{same}
use Rattle.ac_cert_print.proofs.head.couple.Goals as goal

pub returns-in-None : goal.returns-in-None
unfolding couple number absent before present fork pair
returns-in-None g c = same (ap couple.spell c.in-None.is) c.word.ensures

pub returns-in-Some : goal.returns-in-Some
unfolding couple number absent before present fork pair
returns-in-Some g c = same (ap couple.spell c.in-Some.is) (then c.small.ensures c.small-in-Some.ensures)
