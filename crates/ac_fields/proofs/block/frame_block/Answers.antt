use Rattle.std.proofs.Common.{refl}
use Rattle.ac_sent.specs.Fields.{sent_fields}
use Rattle.ac_fields.proofs.block.frame_block.Goals as goal

pub returns : goal.returns
unfolding sent_fields
returns c = record {
  value =
      rw c.join.ensures (rw (c.start.ensures, c.strategy.ensures, c.shared.ensures, c.codes.ensures, c.exponents.ensures)
      (rw (c.allocation.ensures, c.rest.ensures) refl));
}
