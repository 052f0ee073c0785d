use Rattle.std.proofs.Common.{take}
use Rattle.ac_cert_print.specs.Pages.{page, Wrote}
use Rattle.ac_cert_print.proofs.pen.Pen.word.Given as goal

abbrev pub invariant-loop-byte : goal.invariant-loop-byte
invariant-loop-byte g l =
    Wrote (take l.byte-index l.bytes) (page g.O.Sink.held g.O.Sink.faults l.initial.self l.initial.out) (page g.O.Sink.held g.O.Sink.faults l.self l.out)
