use Rattle.std.proofs.Common.{◌≡◌, ◌+◌, ◌≤◌, length}
use Rattle.ac_trees.specs.Made.{AreLevels}
use Rattle.ac_trees.proofs.certificates.levels.Given as goal

abbrev pub invariant-loop-t : goal.invariant-loop-t
invariant-loop-t l = record {
  low : l.upper ≤ l.t;
  high : l.t ≤ l.top;
  each : AreLevels l.shape l.lists.raw l.top l.made.items;
  count : length l.made.items + l.t ≡ l.top;
}

abbrev pub decreases-loop-t : goal.decreases-loop-t
decreases-loop-t l = l.t
