use Rattle.std.proofs.Common.{ℕ}
use Rattle.ac_energy.specs.Coefficients.{entry}
use Rattle.ac_energy.specs.Energy.{AreSmallIn}
use Rattle.ac_separation.proofs.tests.coupled_channels_by_band.Given as goal

abbrev pub invariant-loop-bin : goal.invariant-loop-bin
invariant-loop-bin g l = (c : ℕ) → AreSmallIn (entry l.values.c c) 0 256
