use Rattle.ac_cert_text.specs.Codec.{after, tested}
use Rattle.ac_cert_text.specs.Text.{word_line}
use Rattle.ac_cert_print.proofs.Writing.{then}
use Rattle.ac_cert_print.proofs.words.word_line.Goals as goal

pub returns : goal.returns
unfolding word_line after tested
returns g c = then c.word.ensures (then c.place.ensures (then c.word-2.ensures c.codes.ensures))
