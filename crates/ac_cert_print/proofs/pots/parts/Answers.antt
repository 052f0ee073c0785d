use Rattle.std.proofs.Common.{arith}
use Rattle.ac_cert_text.specs.Text.{pot_line}
use Rattle.ac_cert_print.specs.Pages.{page}
use Rattle.ac_cert_print.proofs.Spelling.{at_first, one_piece, at_last}
use Rattle.ac_cert_print.proofs.pots.parts.Goals as goal

pub loop-part-init : goal.loop-part-init
loop-part-init g c = at_first 3 (pot_line c.args.c) c.args.rows.now (page g.O.Sink.held g.O.Sink.faults c.args.pen.now c.args.out.now)

pub loop-part-preserved : goal.loop-part-preserved
loop-part-preserved g c = one_piece 3 c.loop-part.part c.from.result (pot_line c.args.c) c.args.rows.now _ (omega arith) c.loop-part-test.true c.from.ensures c.loop-part.invariant c.pot_line.ensures

pub returns : goal.returns
returns g c = at_last 3 c.loop-part.part (pot_line c.args.c) c.args.rows.now (omega arith) c.loop-part-test.false c.loop-part.invariant
