use Rattle.std.proofs.Common.{length, arith, ap, sym, ◌∙◌}
use Rattle.ac_bits.proofs.Laws.{length-bits}
use Rattle.ac_mant.proofs.pen.Pen.write.Goals as goal

pub gathered-held-requires-clause-room : goal.gathered-held-requires-clause-room
gathered-held-requires-clause-room c =
    let s = c.self.inside in
    let long = sym (length-bits s.held s.used) ∙ ap length c.self.view_is in
    omega (arith, long, c.requires.room)
