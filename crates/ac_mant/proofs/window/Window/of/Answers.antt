use Rattle.std.proofs.Common.{◌++◌, ap, ◌∙◌}
use Rattle.ac_bits.proofs.Laws.{bits-zero}
use Rattle.ac_mant.proofs.window.Window.of.Goals as goal

pub returns : goal.returns
returns c = ap (λ l. l ++ c.copy.result) (bits-zero 0) ∙ c.copy.ensures
