use Rattle.std.proofs.Common.{◌≡◌, ◌≤◌, None}
use Rattle.ac_bound.specs.Steps.{kinds_of}
use Rattle.ac_bound.specs.Ways.{potential}
use Rattle.ac_claim.specs.Potentials.{first_below}
use Rattle.ac_claim.proofs.Looping.{kind_at}
use Rattle.ac_claim.proofs.potentials.kinds_test.Given as goal

abbrev pub invariant-loop-coarser : goal.invariant-loop-coarser
invariant-loop-coarser l = record {
  few : l.coarser ≤ kinds_of l.basis.table.now.shape l.c;
  none : first_below l.coarser (kind_at l.basis.table.now (potential l.basis.pots.now.p) l.c l.part l.from l.to) ≡ None;
}
