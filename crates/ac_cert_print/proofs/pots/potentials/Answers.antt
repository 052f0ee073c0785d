use Rattle.std.proofs.Common.{arith, refl}
use Rattle.ac_cert_text.specs.Text.{potential}
use Rattle.ac_cert_print.specs.Pages.{page}
use Rattle.ac_cert_print.proofs.Spelling.{at_first, one_piece, at_last}
use Rattle.ac_cert_print.proofs.pots.potentials.Goals as goal

pub loop-at-init : goal.loop-at-init
loop-at-init g c = at_first 6 potential c.args.entries.now (page g.O.Sink.held g.O.Sink.faults c.args.pen.now c.args.out.now)

pub loop-at-preserved : goal.loop-at-preserved
loop-at-preserved g c = one_piece 6 c.loop-at.at c.loop-at.at potential c.args.entries.now _ (omega arith) c.loop-at-test.true refl c.loop-at.invariant c.potential.ensures

pub returns : goal.returns
returns g c = at_last 6 c.loop-at.at potential c.args.entries.now (omega arith) c.loop-at-test.false c.loop-at.invariant
