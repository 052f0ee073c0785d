use Rattle.std.proofs.Common.{take}
use Rattle.ac_cert_text.specs.Codec.{each}
use Rattle.ac_cert_text.specs.Text.{fields_of, pot_lines}
use Rattle.ac_cert_print.specs.Pages.{page, Wrote}
use Rattle.ac_cert_print.proofs.pots.pots.Given as goal

abbrev pub invariant-loop-c : goal.invariant-loop-c
invariant-loop-c g l =
    Wrote ((each 7 0 (pot_lines (fields_of l.fn.shape))).spell (take l.c l.fn.all.p)) (page g.O.Sink.held g.O.Sink.faults l.fn.pen l.fn.out) (page g.O.Sink.held g.O.Sink.faults l.pen l.out)
