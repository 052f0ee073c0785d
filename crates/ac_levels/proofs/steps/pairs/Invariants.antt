use Rattle.std.proofs.Common.{◌+◌, ◌*◌}
use Rattle.ac_levels.proofs.Placing.{ArePaired}
use Rattle.ac_levels.proofs.steps.pairs.Given as goal

abbrev pub invariant-loop-j : goal.invariant-loop-j
invariant-loop-j l = ArePaired l.old l.new (16 * l.j + 1)
