use Rattle.std.proofs.Common.{ap, sym, refl}
use Rattle.ac_cert_text.specs.Codec.{each}
use Rattle.ac_cert_text.specs.Text.{code}
use Rattle.ac_cert_print.specs.Pages.{page}
use Rattle.ac_cert_print.proofs.Spelling.{at_first, one_piece, at_last, same}
use Rattle.ac_cert_print.proofs.words.codes.Goals as goal

pub loop-b-init : goal.loop-b-init
loop-b-init g c = at_first 6 code c.codes-entries.result (page g.O.Sink.held g.O.Sink.faults c.args.pen.now c.args.out.now)

pub loop-b-preserved : goal.loop-b-preserved
loop-b-preserved g c = one_piece 6 c.loop-b.b c.loop-b.b code c.codes-entries.result _ c.codes-entries.ensures.word.long c.loop-b-test.true refl c.loop-b.invariant c.code.ensures

pub returns : goal.returns
returns g c =
    same (ap (each 6 0 code).spell (sym c.codes-entries.ensures.value)) (at_last 6 c.loop-b.b code c.codes-entries.result c.codes-entries.ensures.word.long c.loop-b-test.false c.loop-b.invariant)
