use Rattle.std.proofs.Common.{◌≡◌, ◌≤◌, None}
use Rattle.ac_claim.specs.Potentials.{first_below}
use Rattle.ac_claim.proofs.Looping.{block_at}
use Rattle.ac_claim.proofs.raws.blocks_test.Given as goal

abbrev pub invariant-loop-block : goal.invariant-loop-block
invariant-loop-block l = record {
  few : l.block ≤ 6;
  none : first_below l.block (block_at l.span l.rows l.channel) ≡ None;
}
