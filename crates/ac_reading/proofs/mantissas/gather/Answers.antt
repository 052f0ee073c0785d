use Rattle.std.proofs.Common.{◌≡◌, ◌++◌, ℕ, take, arith, sym, subst}
use Rattle.ac_record.specs.Order.{over_bins}
use Rattle.ac_record.specs.Readings.{cell}
use Rattle.ac_reading.specs.Mantissas.{span_at}
use Rattle.ac_reading.proofs.Flat.{channels_none}
use Rattle.ac_reading.proofs.Steps.{gather_more}
use Rattle.ac_reading.proofs.mantissas.gather.Goals as goal

pub loop-c-init : goal.loop-c-init
loop-c-init c = (sym (channels_none _ _), omega arith)

pub loop-c-preserved : goal.loop-c-preserved
loop-c-preserved c =
    let l = c.loop-c in
    let end = c.requires.ends c.from-c.result in (
      gather_more (span_at c.args.spans.now) c.args.order.now l.c-index l.at c.gather_row-at.result l.flat c.gather_row-at.new.flat (λ x k. cell c.args.baps.now x c.args.b k) c.loop-c-test.true l.invariant.0
          (subst (λ (x : ℕ). take c.gather_row-at.result c.gather_row-at.new.flat ≡ take l.at l.flat ++ over_bins (λ k. cell c.args.baps.now x c.args.b k) (span_at c.args.spans.now x)) c.from-c.ensures c.gather_row-at.ensures.value),
      omega (arith, c.gather_row-at.ensures.count, l.invariant.1, end),
    )
