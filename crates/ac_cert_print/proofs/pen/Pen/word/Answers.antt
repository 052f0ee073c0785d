use Rattle.std.proofs.Common.{List, ℕ, sym, subst}
use Rattle.std.proofs.lemmas.List.{take_more, take_all}
use Rattle.ac_cert_print.specs.Pages.{page, Wrote}
use Rattle.ac_cert_print.proofs.Writing.{then, nothing}
use Rattle.ac_cert_print.proofs.pen.Pen.word.Goals as goal

pub loop-byte-init : goal.loop-byte-init
loop-byte-init g c = nothing (page g.O.Sink.held g.O.Sink.faults c.args.self.now c.args.out.now)

pub loop-byte-preserved : goal.loop-byte-preserved
loop-byte-preserved g c =
    let a = page g.O.Sink.held g.O.Sink.faults c.args.self.now c.args.out.now in
    let b = page g.O.Sink.held g.O.Sink.faults c.put.new.self c.put.new.out in
    subst (λ (l : List ℕ). Wrote l a b) (sym (take_more c.args.bytes.now c.loop-byte.byte-index 0 c.loop-byte-test.true)) (then c.loop-byte.invariant c.put.ensures)

pub returns : goal.returns
returns g c =
    let a = page g.O.Sink.held g.O.Sink.faults c.args.self.now c.args.out.now in
    let b = page g.O.Sink.held g.O.Sink.faults c.loop-byte.self c.loop-byte.out in
    subst (λ (l : List ℕ). Wrote l a b) (take_all c.loop-byte.byte-index c.args.bytes.now c.loop-byte-test.false) c.loop-byte.invariant
