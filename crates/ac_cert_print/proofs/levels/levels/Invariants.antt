use Rattle.std.proofs.Common.{◌≡◌, ◌+◌, take}
use Rattle.ac_cert_text.specs.Text.{fields_of, offsets_of}
use Rattle.ac_cert_print.specs.Pages.{page, Wrote}
use Rattle.ac_cert_print.proofs.Ends.{lines}
use Rattle.ac_cert_print.proofs.levels.levels.Given as goal

abbrev pub invariant-loop-lines : goal.invariant-loop-lines
invariant-loop-lines g l = record {
  left : l.left + l.lines-index ≡ l.fn.count;
  wrote : Wrote (lines (fields_of l.fn.shape) l.fn.count (offsets_of (take l.lines-index l.fn.all))) (page g.O.Sink.held g.O.Sink.faults l.fn.pen l.fn.out) (page g.O.Sink.held g.O.Sink.faults l.pen l.out);
}
