use Rattle.ac_cert_text.specs.Codec.{after, before}
use Rattle.ac_cert_text.specs.Text.{tree_line}
use Rattle.ac_cert_text.specs.TreeText.{tree}
use Rattle.ac_cert_print.proofs.Writing.{then}
use Rattle.ac_cert_print.proofs.levels.tree_line.Goals as goal

pub returns : goal.returns
unfolding tree_line after before tree
returns g c = then c.word.ensures (then c.tree.ensures c.word-2.ensures)
