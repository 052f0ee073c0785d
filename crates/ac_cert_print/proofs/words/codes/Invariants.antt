use Rattle.std.proofs.Common.{take}
use Rattle.ac_cert_text.specs.Codec.{each}
use Rattle.ac_cert_text.specs.Text.{code}
use Rattle.ac_cert_print.specs.Pages.{page, Wrote}
use Rattle.ac_cert_print.proofs.words.codes.Given as goal

abbrev pub invariant-loop-b : goal.invariant-loop-b
invariant-loop-b g l =
    Wrote ((each 6 0 code).spell (take l.b l.entries)) (page g.O.Sink.held g.O.Sink.faults l.fn.pen l.fn.out) (page g.O.Sink.held g.O.Sink.faults l.pen l.out)
