use Rattle.std.specs.Prelude.{◌^◌, ◌<◌}
use Rattle.ac_base.specs.Sigma.{Within}
use Rattle.ac_cosine_sums.proofs.tests.fill_cosines.Given as goal

abbrev pub invariant-loop-i : goal.invariant-loop-i
invariant-loop-i l = Within (2 ^ 30) l.i l.out × (l.phase < 2048)
