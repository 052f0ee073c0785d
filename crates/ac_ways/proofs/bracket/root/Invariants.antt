use Rattle.std.proofs.Common.{◌≤◌, ◌-◌}
use Rattle.ac_windows.specs.Windows.{IsWindow}
use Rattle.ac_ways.specs.Sixteen.{AreWays, IsBracket}
use Rattle.ac_ways.proofs.bracket.root.Given as goal

abbrev pub invariant-loop-bracket : goal.invariant-loop-bracket
invariant-loop-bracket l = record {
  bracket : IsBracket l.shape l.rows.raw l.bracket;
  first : l.first ≤ 1008;
  window : IsWindow l.shape l.rows.raw l.first l.window.six;
  ways : AreWays l.shape l.rows.raw l.first l.at_each.p;
}

abbrev pub decreases-loop-bracket : goal.decreases-loop-bracket
decreases-loop-bracket l = l.bracket.high - l.bracket.low
