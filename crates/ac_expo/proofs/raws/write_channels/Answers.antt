use Rattle.std.proofs.Common.{arith}
use Rattle.ac_expo.proofs.Elsewhere.{written_at}
use Rattle.ac_expo.proofs.raws.write_channels.Goals as goal

pub loop-c-preserved : goal.loop-c-preserved
loop-c-preserved c =
    let shape = c.args.shape.now in
    written_at shape c.args.coefs.now.c _ c.loop-c.out.e c.loop-c.c c.from-at.result c.span.result c.write_blocks.new.out c.from-at.ensures c.span.ensures.value (omega arith) c.loop-c.invariant.0 (omega arith) c.write_blocks.ensures.value c.write_blocks.ensures.rest c.loop-c.invariant.1 c.loop-c.invariant.2
