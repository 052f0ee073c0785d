use Rattle.ac_levels.proofs.Filling.{AreFilled}
use Rattle.ac_levels.proofs.rows.fill_from.Given as goal

abbrev pub invariant-loop-b : goal.invariant-loop-b
invariant-loop-b l = AreFilled l.blocks l.from l.at l.b l.row l.fn.out l.out
