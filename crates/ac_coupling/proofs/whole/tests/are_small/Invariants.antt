use Rattle.std.proofs.Common.{ℕ, ◌<◌, ◌^◌, unsigned_abs}
use Rattle.ac_energy.specs.Coefficients.{entry}
use Rattle.ac_coupling.proofs.whole.tests.are_small.Given as goal

abbrev pub invariant-loop-c : goal.invariant-loop-c
invariant-loop-c l = (c b k : ℕ) → c < l.c → b < 6 → k < 256 → unsigned_abs (entry l.coefs.c c b k) < 2 ^ 24
