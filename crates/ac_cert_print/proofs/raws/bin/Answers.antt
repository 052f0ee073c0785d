use Rattle.std.proofs.Common.{sym, ◌∙◌}
use Rattle.ac_cert_text.specs.Codec.{number}
use Rattle.ac_cert_text.specs.Text.{end_at, is_in, bin}
use Rattle.ac_cert_print.specs.Pages.{page}
use Rattle.ac_cert_print.proofs.Writing.{nothing}
use Rattle.ac_cert_print.proofs.Spelling.{same, there, not-there}
use Rattle.ac_cert_print.proofs.raws.bin.Goals as goal

pub returns-then-inside : goal.returns-then-inside
unfolding bin
returns-then-inside g c =
    same (there (is_in c.args.span.now c.args.k) 0 (number 256 (end_at c.args.span.now.end c.args.k)) c.args.value (sym c.is_in-inside.ensures ∙ c.if-inside.true)) c.entry.ensures

pub returns-else-inside : goal.returns-else-inside
unfolding bin
returns-else-inside g c =
    same (not-there (is_in c.args.span.now c.args.k) 0 (number 256 (end_at c.args.span.now.end c.args.k)) c.args.value (sym c.is_in-inside.ensures ∙ c.if-inside.false))
    (nothing (page g.O.Sink.held g.O.Sink.faults c.args.pen.now c.args.out.now))
