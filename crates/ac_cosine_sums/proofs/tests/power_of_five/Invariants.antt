use Rattle.std.specs.Prelude.{◌<◌}
use Rattle.ac_cosine_sums.proofs.tests.power_of_five.Given as goal

abbrev pub invariant-loop-turn : goal.invariant-loop-turn
invariant-loop-turn l = l.power < 2048
