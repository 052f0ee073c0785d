use Rattle.std.proofs.Common.{◌≡◌, ◌≤◌, drop}
use Rattle.ac_claim.specs.Tests.{levels_no}
use Rattle.ac_claim.proofs.checks.levels_test.Given as goal

abbrev pub invariant-loop-level : goal.invariant-loop-level
invariant-loop-level l = record {
  within : l.t ≤ 1023;
  rest : levels_no l.shape l.lists.raw l.t (drop l.level-index l.levels) ≡ levels_no l.shape l.lists.raw l.top l.levels;
}
