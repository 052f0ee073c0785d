use Rattle.std.proofs.Common.{◌≡◌, ◌≤◌, ◌-◌, None}
use Rattle.ac_claim.specs.Potentials.{first_below}
use Rattle.ac_claim.proofs.Looping.{bin_at}
use Rattle.ac_claim.proofs.raws.row_test.Given as goal

abbrev pub invariant-loop-i : goal.invariant-loop-i
invariant-loop-i l = record {
  few : l.i ≤ l.span.end - l.span.start;
  none : first_below l.i (bin_at l.span l.row l.channel l.block) ≡ None;
}
