use Rattle.std.proofs.Common.{ℕ}
use Rattle.ac_energy.specs.Coefficients.{entry}
use Rattle.ac_energy.specs.Energy.{AreSmallIn}
use Rattle.ac_rematrix.proofs.tests.fill.Given as goal

abbrev pub invariant-loop-i : goal.invariant-loop-i
invariant-loop-i l = (c : ℕ) → AreSmallIn (entry l.coefs.c c) 0 256
