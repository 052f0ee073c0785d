use Rattle.std.proofs.Common.{◌≡◌, sym, ◌∙◌, ap, arith}
use Rattle.ac_base.specs.Quarter.{half}
use Rattle.ac_base.proofs.Rules.{half_zero, angle_is}
use Rattle.ac_base.proofs.cosine_table.step_angle.Goals as goal

pub loop-turn-init : goal.loop-turn-init
loop-turn-init c = (sym half_zero, omega arith)

pub returns-clause-value : goal.returns-clause-value
returns-clause-value c =
    let nine : c.loop-turn._turn ≡ 9 = omega arith in
    c.loop-turn.invariant.0 ∙ ap half nine ∙ sym angle_is
