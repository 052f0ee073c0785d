use Rattle.std.proofs.Common.{◌≡◌, ◌+◌, ◌-◌, ◌*◌, ◌^◌, ◌≤◌, pos, slice_index_or}
use Rattle.ac_base.specs.Sigma.{sum_below}
use Rattle.ac_energy.specs.Energy.{square}
use Rattle.ac_energy.proofs.block_energy.Given as goal

abbrev pub invariant-loop-k : goal.invariant-loop-k
invariant-loop-k l =
    (l.sum ≡ sum_below (l.k - l.start) (λ i. square (slice_index_or l.row (l.start + i) (pos 0)))) × (l.sum ≤ (l.k - l.start) * 2 ^ 48) × (l.k - l.start ≤ l.end - l.start)
