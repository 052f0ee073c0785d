use Rattle.std.proofs.Common.{length, ap, sym, ◌∙◌}
use Rattle.ac_bits.proofs.Laws.{length-to_come}
use Rattle.ac_bits.proofs.source.BitSource.left.Goals as goal

pub returns : goal.returns
returns c =
    let s = c.self.inside in
    sym (length-to_come s.left s.held s.have s.at s.bytes.now c.self.invariant.0 c.self.invariant.3) ∙ ap length c.self.view_is
