use Rattle.std.proofs.Common.{◌≡◌, ◌+◌, ◌≤◌, ◌-◌, drop}
use Rattle.ac_base.specs.Words.{zeros}
use Rattle.ac_expo.proofs.run.stop_of.Given as goal

abbrev pub invariant-loop-at : goal.invariant-loop-at
invariant-loop-at l = (l.from ≤ l.at) × (l.at ≤ 6) × (l.at + zeros (drop l.at l.codes) ≡ l.from + zeros (drop l.from l.codes))

abbrev pub decreases-loop-at : goal.decreases-loop-at
decreases-loop-at l = 6 - l.at
