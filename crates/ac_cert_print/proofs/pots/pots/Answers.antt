use Rattle.std.proofs.Common.{arith}
use Rattle.ac_cert_text.specs.Text.{fields_of, pot_lines, pots}
use Rattle.ac_cert_print.specs.Pages.{page}
use Rattle.ac_cert_print.proofs.Spelling.{at_first, one_piece, at_last}
use Rattle.ac_cert_print.proofs.pots.pots.Goals as goal

pub loop-c-init : goal.loop-c-init
loop-c-init g c = at_first 7 (pot_lines (fields_of c.args.shape.now)) c.args.all.now.p (page g.O.Sink.held g.O.Sink.faults c.args.pen.now c.args.out.now)

pub loop-c-preserved : goal.loop-c-preserved
loop-c-preserved g c = one_piece 7 c.loop-c.c c.from.result (pot_lines (fields_of c.args.shape.now)) c.args.all.now.p _ (omega arith) c.loop-c-test.true c.from.ensures c.loop-c.invariant c.pot_lines.ensures

pub returns : goal.returns
unfolding pots
returns g c = at_last 7 c.loop-c.c (pot_lines (fields_of c.args.shape.now)) c.args.all.now.p (omega arith) c.loop-c-test.false c.loop-c.invariant
