use Rattle.std.proofs.Common.{arith}
use Rattle.ac_cert_text.specs.Text.{raw_line}
use Rattle.ac_cert_print.specs.Pages.{page}
use Rattle.ac_cert_print.proofs.Spelling.{at_first, one_piece, at_last}
use Rattle.ac_cert_print.proofs.raws.blocks.Goals as goal

pub loop-b-init : goal.loop-b-init
loop-b-init g c = at_first 6 (raw_line c.args.span.now c.args.c) c.args.rows.now (page g.O.Sink.held g.O.Sink.faults c.args.pen.now c.args.out.now)

pub loop-b-preserved : goal.loop-b-preserved
loop-b-preserved g c = one_piece 6 c.loop-b.b c.from.result (raw_line c.args.span.now c.args.c) c.args.rows.now _ (omega arith) c.loop-b-test.true c.from.ensures c.loop-b.invariant c.raw_line.ensures

pub returns : goal.returns
returns g c = at_last 6 c.loop-b.b (raw_line c.args.span.now c.args.c) c.args.rows.now (omega arith) c.loop-b-test.false c.loop-b.invariant
