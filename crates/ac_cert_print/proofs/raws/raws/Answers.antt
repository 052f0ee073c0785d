use Rattle.std.proofs.Common.{arith}
use Rattle.ac_cert_text.specs.Text.{fields_of, raw_lines, raws}
use Rattle.ac_cert_print.specs.Pages.{page}
use Rattle.ac_cert_print.proofs.Spelling.{at_first, one_piece, at_last}
use Rattle.ac_cert_print.proofs.raws.raws.Goals as goal

pub loop-c-init : goal.loop-c-init
loop-c-init g c = at_first 7 (raw_lines (fields_of c.args.shape.now)) c.args.raw.now.e (page g.O.Sink.held g.O.Sink.faults c.args.pen.now c.args.out.now)

pub loop-c-preserved : goal.loop-c-preserved
loop-c-preserved g c = one_piece 7 c.loop-c.c c.from.result (raw_lines (fields_of c.args.shape.now)) c.args.raw.now.e _ (omega arith) c.loop-c-test.true c.from.ensures c.loop-c.invariant c.raw_lines.ensures

pub returns : goal.returns
unfolding raws
returns g c = at_last 7 c.loop-c.c (raw_lines (fields_of c.args.shape.now)) c.args.raw.now.e (omega arith) c.loop-c-test.false c.loop-c.invariant
