use Rattle.std.proofs.Common.{◌≡◌, ◌-◌, ◌*◌, ◌^◌, ◌≤◌, unsigned_abs}
use Rattle.ac_base.specs.Sigma.{sigma}
use Rattle.ac_energy.specs.Coefficients.{entry}
use Rattle.ac_coupling.proofs.means.sum_at.Given as goal

abbrev pub invariant-loop-c : goal.invariant-loop-c
invariant-loop-c l =
    (l.sum ≡ sigma l.c (λ c. entry l.coefs.c c l.b l.k)) × (unsigned_abs l.sum ≤ l.c * (2 ^ 24 - 1))
