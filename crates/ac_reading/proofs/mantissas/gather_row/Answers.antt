use Rattle.std.proofs.Common.{arith, take, ap, slice_index}
use Rattle.ac_reading.proofs.Steps.{gather_step}
use Rattle.ac_reading.proofs.mantissas.gather_row.Goals as goal

pub loop-k-preserved : goal.loop-k-preserved
loop-k-preserved c =
    let room = c.loop-k.invariant.0 in (
      omega (arith, c.loop-k.invariant.0, c.loop-k.auto.k),
      gather_step c.loop-k.flat c.args.row.now (take c.args.at c.args.flat.now) c.loop-k.to c.args.span.now.start c.loop-k.k _ (omega (arith, c.loop-k.invariant.0)) c.loop-k.auto.k (ap (slice_index c.args.row.now) c.from.ensures) c.loop-k.invariant.1,
    )
