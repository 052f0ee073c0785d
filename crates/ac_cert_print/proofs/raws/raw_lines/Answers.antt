use Rattle.std.proofs.Common.{ap, sym, ◌∙◌}
use Rattle.std.specs.Prelude.{nat_lt}
use Rattle.ac_base.specs.declared.spans.Span.{Span}
use Rattle.ac_cert_text.specs.Codec.{each}
use Rattle.ac_cert_text.specs.Text.{fields_of, coded, no_rows, bins, raw_line, raw_lines}
use Rattle.ac_cert_print.specs.Pages.{page}
use Rattle.ac_cert_print.proofs.Writing.{nothing}
use Rattle.ac_cert_print.proofs.Spelling.{same, there, not-there, below, not-below}
use Rattle.ac_cert_print.proofs.raws.raw_lines.Goals as goal

pub returns-then-c-coded : goal.returns-then-c-coded
unfolding raw_lines
returns-then-c-coded g c =
    let n = coded (fields_of c.args.shape.now) in
    let is = below c.args.c c.coded.result n c.if-c-coded.true c.coded.ensures.value in
    same (there (nat_lt c.args.c n) no_rows (each 6 0 (raw_line (bins (fields_of c.args.shape.now) c.args.c) c.args.c)) c.args.rows.now is ∙ ap (λ (s : Span). (each 6 0 (raw_line s c.args.c)).spell c.args.rows.now) (sym c.span.ensures.value)) c.blocks-then-c-coded.ensures

pub returns-else-c-coded : goal.returns-else-c-coded
unfolding raw_lines
returns-else-c-coded g c =
    let n = coded (fields_of c.args.shape.now) in
    let is = not-below c.args.c c.coded.result n c.if-c-coded.false c.coded.ensures.value in
    same (not-there (nat_lt c.args.c n) no_rows (each 6 0 (raw_line (bins (fields_of c.args.shape.now) c.args.c) c.args.c)) c.args.rows.now is) (nothing (page g.O.Sink.held g.O.Sink.faults c.args.pen.now c.args.out.now))
