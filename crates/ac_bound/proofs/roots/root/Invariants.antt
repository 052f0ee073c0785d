use Rattle.std.proofs.Common.{ℕ, ◌-◌, ◌<◌, ◌≤◌}
use Rattle.ac_bound.specs.Roots.{IsClosed}
use Rattle.ac_bound.proofs.roots.root.Given as goal

abbrev pub invariant-loop-high : goal.invariant-loop-high
invariant-loop-high l = record {
  order : l.low < l.high;
  within : l.high ≤ 1024;
  is_open : IsClosed l.shape l.lists.raw l.low → ⊥;
  above : (t : ℕ) → l.high ≤ t → t ≤ 1023 → IsClosed l.shape l.lists.raw t;
}

abbrev pub decreases-loop-high : goal.decreases-loop-high
decreases-loop-high l = l.high - l.low
