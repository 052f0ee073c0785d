use Rattle.std.proofs.Common.{◌≡◌, ◌≤◌, None}
use Rattle.ac_bound.specs.Ways.{potential}
use Rattle.ac_claim.specs.Potentials.{first_below, ends_no}
use Rattle.ac_claim.proofs.potentials.starts_test.Given as goal

abbrev pub invariant-loop-from : goal.invariant-loop-from
invariant-loop-from l = record {
  few : l.from ≤ 6;
  none : first_below l.from (ends_no l.basis.table.now (potential l.basis.pots.now.p) l.c l.part) ≡ None;
}
