use Rattle.ac_cert_print.proofs.Writing.{then}
use Rattle.ac_cert_print.proofs.pen.Pen.number.Goals as goal

pub returns : goal.returns
returns g c = then c.digits.ensures c.put.ensures
