use Rattle.std.proofs.Common.{◌≡◌, ◌≤◌, None}
use Rattle.ac_expo.specs.Raw.{channels}
use Rattle.ac_claim.specs.Potentials.{first_below}
use Rattle.ac_claim.proofs.Looping.{raw_at}
use Rattle.ac_claim.proofs.raws.raw_test.Given as goal

abbrev pub invariant-loop-channel : goal.invariant-loop-channel
invariant-loop-channel l = record {
  few : l.channel ≤ channels l.shape;
  none : first_below l.channel (raw_at l.shape l.raw.e) ≡ None;
}
