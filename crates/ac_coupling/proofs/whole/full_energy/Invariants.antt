use Rattle.std.proofs.Common.{◌≡◌, ◌*◌, ◌^◌, ◌≤◌}
use Rattle.ac_base.specs.Sigma.{sum_below}
use Rattle.ac_energy.specs.Coefficients.{entry}
use Rattle.ac_energy.specs.Energy.{energy_of}
use Rattle.ac_coupling.proofs.whole.full_energy.Given as goal

abbrev pub invariant-loop-c : goal.invariant-loop-c
invariant-loop-c l =
    (l.sum ≡ sum_below l.c (λ c. energy_of (entry l.coefs.c c) l.start l.end)) × (l.sum ≤ l.c * 2 ^ 59)
