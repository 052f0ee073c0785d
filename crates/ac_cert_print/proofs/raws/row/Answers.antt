use Rattle.std.proofs.Common.{arith, refl}
use Rattle.ac_cert_text.specs.Text.{bin, row}
use Rattle.ac_cert_print.specs.Pages.{page}
use Rattle.ac_cert_print.proofs.Spelling.{at_first, one_piece, at_last}
use Rattle.ac_cert_print.proofs.raws.row.Goals as goal

pub loop-k-init : goal.loop-k-init
loop-k-init g c = at_first 256 (bin c.args.span.now) c.args.entries.now (page g.O.Sink.held g.O.Sink.faults c.args.pen.now c.args.out.now)

pub loop-k-preserved : goal.loop-k-preserved
loop-k-preserved g c = one_piece 256 c.loop-k.k c.loop-k.k (bin c.args.span.now) c.args.entries.now _ (omega arith) c.loop-k-test.true refl c.loop-k.invariant c.bin.ensures

pub returns : goal.returns
unfolding row
returns g c = at_last 256 c.loop-k.k (bin c.args.span.now) c.args.entries.now (omega arith) c.loop-k-test.false c.loop-k.invariant
