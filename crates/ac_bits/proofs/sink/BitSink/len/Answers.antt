use Rattle.std.proofs.Common.{◌≡◌, ◌+◌, ◌*◌, length, ap, sym, ◌∙◌, arith}
use Rattle.ac_bits.proofs.Laws.{length-view}
use Rattle.ac_bits.proofs.sink.BitSink.len.Goals as goal

pub returns-clause-len : goal.returns-clause-len
returns-clause-len c =
    let s = c.self.inside in
    sym (length-view s.buf s.full s.held s.used (omega (arith, c.self.told, c.self.invariant))) ∙ ap length c.self.view_is

pub returns-clause-bound : goal.returns-clause-bound
returns-clause-bound c =
    let s = c.self.inside in
    let len : 8 * s.full + s.used ≡ length c.args.self.now = sym (length-view s.buf s.full s.held s.used (omega (arith, c.self.told, c.self.invariant))) ∙ ap length c.self.view_is in
    omega (arith, len, c.self.invariant)
