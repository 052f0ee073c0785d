use Rattle.std.proofs.Common.{[], ◌∷◌}
use Rattle.ac_cert_print.specs.Pages.{page}
use Rattle.ac_cert_print.proofs.Writing.{then, unmoved}
use Rattle.ac_cert_print.proofs.pen.Pen.put.Goals as goal

pub returns-then-self : goal.returns-then-self
returns-then-self g c =
    let b = page g.O.Sink.held g.O.Sink.faults c.room.new.self c.room.new.out in
    then c.room.ensures.wrote (unmoved (c.args.byte ∷ []) b c.if-self.true)
