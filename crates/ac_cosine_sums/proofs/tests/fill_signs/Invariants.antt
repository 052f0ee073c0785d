use Rattle.std.specs.Prelude.{◌^◌}
use Rattle.ac_base.specs.Sigma.{Within}
use Rattle.ac_cosine_sums.proofs.tests.fill_signs.Given as goal

abbrev pub invariant-loop-i : goal.invariant-loop-i
invariant-loop-i l = Within (2 ^ 24) l.i l.out
