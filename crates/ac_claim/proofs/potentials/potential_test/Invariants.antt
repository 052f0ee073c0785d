use Rattle.std.proofs.Common.{◌≡◌, ◌≤◌, None}
use Rattle.ac_expo.specs.Raw.{channels}
use Rattle.ac_bound.specs.Ways.{potential}
use Rattle.ac_claim.specs.Potentials.{first_below}
use Rattle.ac_claim.proofs.Looping.{channel_at}
use Rattle.ac_claim.proofs.potentials.potential_test.Given as goal

abbrev pub invariant-loop-c : goal.invariant-loop-c
invariant-loop-c l = record {
  few : l.c ≤ channels l.basis.table.now.shape;
  none : first_below l.c (channel_at l.basis.table.now (potential l.basis.pots.now.p)) ≡ None;
}
