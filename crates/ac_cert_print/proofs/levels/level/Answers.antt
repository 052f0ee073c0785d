use Rattle.ac_cert_text.specs.Codec.{after, pair}
use Rattle.ac_cert_text.specs.Text.{level}
use Rattle.ac_cert_print.proofs.Writing.{then}
use Rattle.ac_cert_print.proofs.levels.level.Goals as goal

pub returns : goal.returns
unfolding level after pair
returns g c = then c.word.ensures (then c.digits.ensures (then c.word-2.ensures (then c.pots.ensures c.tree_line.ensures)))
