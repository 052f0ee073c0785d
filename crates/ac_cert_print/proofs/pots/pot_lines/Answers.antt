use Rattle.std.specs.Prelude.{nat_lt}
use Rattle.ac_cert_text.specs.Codec.{each}
use Rattle.ac_cert_text.specs.Text.{fields_of, coded, no_pots, pot_line, pot_lines}
use Rattle.ac_cert_print.specs.Pages.{page}
use Rattle.ac_cert_print.proofs.Writing.{nothing}
use Rattle.ac_cert_print.proofs.Spelling.{same, there, not-there, below, not-below}
use Rattle.ac_cert_print.proofs.pots.pot_lines.Goals as goal

pub returns-then-c-coded : goal.returns-then-c-coded
unfolding pot_lines
returns-then-c-coded g c =
    let n = coded (fields_of c.args.shape.now) in
    let is = below c.args.c c.coded.result n c.if-c-coded.true c.coded.ensures.value in
    same (there (nat_lt c.args.c n) no_pots (each 3 0 (pot_line c.args.c)) c.args.rows.now is) c.parts.ensures

pub returns-else-c-coded : goal.returns-else-c-coded
unfolding pot_lines
returns-else-c-coded g c =
    let n = coded (fields_of c.args.shape.now) in
    let is = not-below c.args.c c.coded.result n c.if-c-coded.false c.coded.ensures.value in
    same (not-there (nat_lt c.args.c n) no_pots (each 3 0 (pot_line c.args.c)) c.args.rows.now is) (nothing (page g.O.Sink.held g.O.Sink.faults c.args.pen.now c.args.out.now))
