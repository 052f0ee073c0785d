use Rattle.std.proofs.Common.{◌≡◌, ◌≤◌, ◌^◌}
use Rattle.ac_base.specs.Quarter.{half}
use Rattle.ac_base.proofs.cosine_table.step_angle.Given as goal

abbrev pub invariant-loop-turn : goal.invariant-loop-turn
invariant-loop-turn l = (l.h ≡ half l._turn) × (l.h ≤ 2 ^ 60)
