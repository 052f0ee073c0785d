use Rattle.ac_cert_text.specs.Codec.{after, tested, pair, number}
use Rattle.ac_cert_text.specs.Text.{shape_line, fields}
use Rattle.ac_cert_print.proofs.Writing.{then}
use Rattle.ac_cert_print.proofs.head.shape_line.Goals as goal

pub returns : goal.returns
unfolding shape_line fields after tested pair number
returns g c = then c.word.ensures (then c.small.ensures (then c.small-2.ensures (then c.flag.ensures (then c.small-3.ensures (then c.couple.ensures c.medium.ensures)))))
