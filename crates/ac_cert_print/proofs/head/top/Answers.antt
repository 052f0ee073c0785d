use Rattle.ac_cert_text.specs.Codec.{after, number}
use Rattle.ac_cert_text.specs.Text.{top}
use Rattle.ac_cert_print.proofs.Writing.{then}
use Rattle.ac_cert_print.proofs.head.top.Goals as goal

pub returns : goal.returns
unfolding top after number
returns g c = then c.word.ensures c.medium.ensures
