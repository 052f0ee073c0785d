use Rattle.std.proofs.Common.{ℕ, ◌<◌, ◌^◌, unsigned_abs}
use Rattle.ac_energy.specs.Coefficients.{cell_of}
use Rattle.ac_coupling.proofs.whole.tests.is_small_channel.Given as goal

abbrev pub invariant-loop-b : goal.invariant-loop-b
invariant-loop-b l = (b k : ℕ) → b < l.b → k < 256 → unsigned_abs (cell_of l.rows b k) < 2 ^ 24
