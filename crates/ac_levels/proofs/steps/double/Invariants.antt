use Rattle.ac_levels.proofs.Placing.{AreDoubled}
use Rattle.ac_levels.proofs.steps.double.Given as goal

abbrev pub invariant-loop-g : goal.invariant-loop-g
invariant-loop-g l = AreDoubled l.old l.new l.g
