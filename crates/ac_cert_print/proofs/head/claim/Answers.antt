use Rattle.ac_cert_text.specs.Codec.{after, pair, number}
use Rattle.ac_cert_text.specs.Text.{claim}
use Rattle.ac_cert_print.proofs.Writing.{then}
use Rattle.ac_cert_print.proofs.head.claim.Goals as goal

pub returns : goal.returns
unfolding claim after pair number
returns g c = then c.word.ensures (then c.medium.ensures c.medium-2.ensures)
