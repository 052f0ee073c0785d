use Rattle.std.proofs.Common.{◌+◌, ap, sym, ◌∙◌, length}
use Rattle.ac_mant.proofs.Windows.{window_long}
use Rattle.ac_mant.proofs.window.Window.left.Goals as goal

pub returns : goal.returns
returns c =
    let s = c.self.inside in
    ap (λ n. s.have + n) c.left.ensures ∙ (sym (window_long s.held s.have s.source) ∙ ap length c.self.view_is)
