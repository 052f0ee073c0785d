use Rattle.ac_cert_text.specs.Codec.{after}
use Rattle.ac_cert_text.specs.Text.{pot_line}
use Rattle.ac_cert_print.proofs.Writing.{then}
use Rattle.ac_cert_print.proofs.pots.pot_line.Goals as goal

pub returns : goal.returns
unfolding pot_line after
returns g c = then c.word.ensures (then c.place.ensures (then c.word-2.ensures (then c.place-2.ensures (then c.word-3.ensures c.potentials.ensures))))
