use Rattle.std.proofs.Common.{◌+◌, ℕ, take, arith, refl, sym, ap, ◌∙◌}
use Rattle.ac_reading.specs.Mantissas.{span_at}
use Rattle.ac_reading.proofs.Flat.{channels_none}
use Rattle.ac_reading.proofs.Steps.{scatter_more, scatter_elsewhere, put_stays}
use Rattle.ac_reading.proofs.mantissas.scatter.Goals as goal

pub loop-c-init : goal.loop-c-init
loop-c-init c = record { value = channels_none _ _; few = omega arith; elsewhere = λ d k out. c.requires.blank d k; rest = λ d e k ne. refl }

pub overflow_add-at : goal.overflow_add-at
overflow_add-at c = let end = c.requires.ends c.from-c.result in omega (arith, c.loop-c.invariant.few, c.requires.few, c.loop-c-test.true, c.from-at.ensures, end)

pub loop-c-preserved : goal.loop-c-preserved
loop-c-preserved c =
    let l = c.loop-c in
    let s = span_at c.args.spans.now in
    let end = c.requires.ends c.from-c.result in
    let more = scatter_more s c.args.order.now l.c-index l.at c.args.b c.from-c.result c.args.flat.now c.scatter_row-row.result l.out c.put_codes.new.out c.from-c.ensures c.loop-c-test.true
    (λ i lt. c.requires.apart i l.c-index lt c.loop-c-test.true) (c.requires.spans c.from-c.result) (omega (arith, l.invariant.few, c.requires.few, c.loop-c-test.true)) (omega (arith, end)) l.invariant.value c.scatter_row-row.ensures c.put_codes.ensures in
    record {
      value = more ∙ ap (λ (n : ℕ). take (l.at + n) c.args.flat.now) (sym c.from-at.ensures);
      few = omega (arith, l.invariant.few, c.from-at.ensures, end);
      elsewhere = scatter_elsewhere s c.args.b c.from-c.result _ c.scatter_row-row.result l.out c.put_codes.new.out c.scatter_row-row.ensures c.put_codes.ensures l.invariant.elsewhere;
      rest = put_stays c.args.b c.from-c.result c.scatter_row-row.result _ l.out c.put_codes.new.out c.put_codes.ensures l.invariant.rest;
    }
