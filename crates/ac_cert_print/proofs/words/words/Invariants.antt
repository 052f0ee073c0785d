use Rattle.std.proofs.Common.{take}
use Rattle.ac_cert_text.specs.Codec.{each}
use Rattle.ac_cert_text.specs.Text.{fields_of, word_at}
use Rattle.ac_cert_print.specs.Pages.{page, Wrote}
use Rattle.ac_cert_print.proofs.words.words.Given as goal

abbrev pub invariant-loop-c : goal.invariant-loop-c
invariant-loop-c g l =
    Wrote ((each 7 0 (word_at (fields_of l.fn.shape))).spell (take l.c l.fn.all)) (page g.O.Sink.held g.O.Sink.faults l.fn.pen l.fn.out) (page g.O.Sink.held g.O.Sink.faults l.pen l.out)
