use Rattle.std.proofs.Common.{refl, take}
use Rattle.ac_codec.proofs.Reading.{free_ok, free_out}
use Rattle.ac_codec.proofs.read.pass.Goals as goal

pub returns-then-left-bits : goal.returns-then-left-bits
returns-then-left-bits c = free_out c.args.bits c.args.source.now (rw (← c.left.ensures) c.if-left-bits.true)

pub returns : goal.returns
returns c = (
  take c.args.bits c.args.source.now,
  refl,
  rw c.pass_over.ensures
      (free_ok c.args.bits c.args.source.now (rw (← c.left.ensures) c.if-left-bits.false)),
)
