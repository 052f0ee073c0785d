use Rattle.std.proofs.Common.{◌≡◌, ◌≤◌, ◌-◌, None}
use Rattle.ac_bound.specs.Ways.{potential}
use Rattle.ac_claim.specs.Potentials.{first_below}
use Rattle.ac_claim.proofs.Looping.{end_at}
use Rattle.ac_claim.proofs.potentials.ends_test.Given as goal

abbrev pub invariant-loop-longer : goal.invariant-loop-longer
invariant-loop-longer l = record {
  few : l.longer ≤ 6 - l.from;
  none : first_below l.longer (end_at l.basis.table.now (potential l.basis.pots.now.p) l.c l.part l.from) ≡ None;
}
