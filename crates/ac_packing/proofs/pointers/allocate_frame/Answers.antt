use Rattle.std.proofs.Common.{arith}
use Rattle.std.proofs.lemmas.List.{length-set}
use Rattle.ac_packing.specs.Listing.{ArePointersOf}
use Rattle.ac_packing.proofs.Rows.{row_after}
use Rattle.ac_packing.proofs.pointers.allocate_frame.Goals as goal

pub loop-c-preserved : goal.loop-c-preserved
loop-c-preserved c = (
  omega (arith, c.loop-c.invariant.0, length-set c.loop-c.baps c.from.result c.allocate_channel.new.rows),
  row_after (ArePointersOf c.args.q.now) c.loop-c.baps c.from.result c.loop-c.c c.allocate_channel.new.rows c.from.ensures (omega (arith, c.loop-c.invariant.0)) c.loop-c.invariant.1 c.allocate_channel.ensures.value,
)
