use Rattle.std.proofs.Common.{◌≡◌, ◌+◌, ◌-◌, ◌*◌, ◌^◌, ◌≤◌}
use Rattle.ac_base.specs.Sigma.{sum_below}
use Rattle.ac_energy.specs.Coefficients.{cell_of}
use Rattle.ac_energy.specs.Energy.{square}
use Rattle.ac_energy.proofs.energy.Given as goal

abbrev pub invariant-loop-b : goal.invariant-loop-b
invariant-loop-b l =
    (l.sum ≡ sum_below l.b (λ b. sum_below (l.end - l.start) (λ i. square (cell_of l.rows b (l.start + i))))) × (l.sum ≤ l.b * (255 * 2 ^ 48))
