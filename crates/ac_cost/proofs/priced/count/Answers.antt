use Rattle.std.proofs.Common.{◌-◌, slice_index, refl, arith}
use Rattle.ac_base.proofs.SpanBounds.{span_end}
use Rattle.ac_mant.specs.Counts.{tally}
use Rattle.ac_cost.proofs.Counting.{count-none, count-more, counts-small}
use Rattle.ac_cost.proofs.priced.count.Goals as goal

pub loop-k-init : goal.loop-k-init
loop-k-init c = count-none (slice_index c.args.pointers.now) c.args.span.now.start _ refl

pub add-requires-clause-bound : goal.add-requires-clause-bound
add-requires-clause-bound c =
    let end = span_end c.args.span.now c.requires.span in
    counts-small c.loop-k.counts (slice_index c.args.pointers.now) c.args.span.now.start (c.loop-k.k - c.args.span.now.start) c.loop-k.invariant (omega (arith, end, c.loop-k-test.true))

pub loop-k-preserved : goal.loop-k-preserved
loop-k-preserved c =
    count-more (slice_index c.args.pointers.now) c.args.span.now.start c.loop-k.k (tally c.loop-k.counts) (tally c.add.new.self) (omega (arith, c.loop-k.auto.k)) c.loop-k.invariant c.add.ensures
