use Rattle.std.specs.Prelude.{nat_lt}
use Rattle.ac_cert_text.specs.Text.{fields_of, coded, first_word, word_line, word_at}
use Rattle.ac_cert_print.specs.Pages.{page}
use Rattle.ac_cert_print.proofs.Writing.{nothing}
use Rattle.ac_cert_print.proofs.Spelling.{same, there, not-there, below, not-below}
use Rattle.ac_cert_print.proofs.words.word.Goals as goal

pub returns-then-c-coded : goal.returns-then-c-coded
unfolding word_at
returns-then-c-coded g c =
    let n = coded (fields_of c.args.shape.now) in
    let is = below c.args.c c.coded.result n c.if-c-coded.true c.coded.ensures.value in
    same (there (nat_lt c.args.c n) first_word (word_line c.args.c) c.args.word.now is) c.word_line.ensures

pub returns-else-c-coded : goal.returns-else-c-coded
unfolding word_at
returns-else-c-coded g c =
    let n = coded (fields_of c.args.shape.now) in
    let is = not-below c.args.c c.coded.result n c.if-c-coded.false c.coded.ensures.value in
    same (not-there (nat_lt c.args.c n) first_word (word_line c.args.c) c.args.word.now is) (nothing (page g.O.Sink.held g.O.Sink.faults c.args.pen.now c.args.out.now))
