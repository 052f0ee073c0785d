use Rattle.std.proofs.Common.{◌≡◌, ◌<◌, ◌≤◌, ℕ, length}
use Rattle.ac_energy.specs.Coefficients.{entry, cell_of}
use Rattle.ac_coupling.specs.Coupling.{mean_of}
use Rattle.ac_coupling.proofs.means.means.Given as goal

abbrev pub invariant-loop-b : goal.invariant-loop-b
invariant-loop-b l =
    (length l.rows ≡ 6) × ((b k : ℕ) → b < l.b → l.start ≤ k → k < l.end → cell_of l.rows b k ≡ mean_of l.full (entry l.coefs.c) b k)
