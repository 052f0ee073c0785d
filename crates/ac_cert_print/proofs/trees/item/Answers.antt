use Rattle.ac_cert_print.proofs.Writing.{then}
use Rattle.ac_cert_print.proofs.trees.item.Goals as goal

pub returns : goal.returns
returns g c = then c.put.ensures c.put-2.ensures
