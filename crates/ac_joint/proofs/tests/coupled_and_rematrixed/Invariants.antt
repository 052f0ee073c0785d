use Rattle.std.proofs.Common.{ℕ}
use Rattle.ac_energy.specs.Coefficients.{entry}
use Rattle.ac_energy.specs.Energy.{AreSmallIn}
use Rattle.ac_joint.proofs.tests.coupled_and_rematrixed.Given as goal

abbrev pub invariant-loop-c : goal.invariant-loop-c
invariant-loop-c g l = (c : ℕ) → AreSmallIn (entry l.coefs.c c) 0 256
