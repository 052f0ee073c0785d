use Rattle.ac_levels.proofs.Filling.{AreOfKind}
use Rattle.ac_levels.proofs.rows.fill_kind.Given as goal

abbrev pub invariant-loop-from : goal.invariant-loop-from
invariant-loop-from l = AreOfKind l.blocks l.start l.from l.at l.fn.out l.out
