use Rattle.std.proofs.Common.{◌≡◌, arith, subst}
use Rattle.ac_base.specs.declared.spans.Span.{Span}
use Rattle.ac_alloc.specs.Integration.{AreExponents}
use Rattle.ac_rows.specs.Filled.{span_in}
use Rattle.ac_rows.proofs.HeadSound.{head_channels}
use Rattle.ac_record.specs.Held.{exponent_in}
use Rattle.ac_reading.specs.Cells.{IsRow}
use Rattle.ac_reading.specs.Mantissas.{span_at}
use Rattle.ac_reading.proofs.Keeping.{row_before}
use Rattle.ac_reading.proofs.Steps.{put_stays}
use Rattle.ac_reading.proofs.Rooms.{at_span, value_more, bound_more, blank_more, holds_from}
use Rattle.ac_reading.proofs.exponents.put_exponents.Goals as goal

pub coded-c-end-requires : goal.coded-c-end-requires
coded-c-end-requires c = head_channels c.args.head.now c.requires.head

pub exponent_row-row-requires-clause-span : goal.exponent_row-row-requires-clause-span
exponent_row-row-requires-clause-span c = at_span c.args.head.now c.args.filled.now c.args.spans.now c.loop-c.c c.requires.spans (omega (arith, c.loop-c-test.true, c.coded-c-end.ensures.bound))

pub exponent_row-row-requires-clause-before : goal.exponent_row-row-requires-clause-before
exponent_row-row-requires-clause-before c =
    λ lt. row_before c.args.head.now c.args.b c.saturating_sub-last.result c.args.kept.now c.args.earlier.now c.args.out.now c.loop-c.out c.loop-c.c c.saturating_sub-last.ensures c.requires.kept c.loop-c.invariant.rest lt

pub loop-c-preserved : goal.loop-c-preserved
loop-c-preserved c =
    let l = c.loop-c in
    let h = c.args.head.now in
    let f = c.args.filled.now in
    let b = c.args.b in
    let at : span_at c.args.spans.now l.c ≡ span_in h f l.c = at_span h f c.args.spans.now l.c c.requires.spans (omega (arith, c.loop-c-test.true, c.coded-c-end.ensures.bound)) in
    let row : IsRow (span_in h f l.c) (exponent_in h c.args.earlier.now c.args.block.now l.c) c.exponent_row-row.result = subst (λ (s : Span). IsRow s (exponent_in h c.args.earlier.now c.args.block.now l.c) c.exponent_row-row.result) at c.exponent_row-row.ensures.value in
    let small : AreExponents (span_in h f l.c).start (span_in h f l.c).end c.exponent_row-row.result = subst (λ (s : Span). AreExponents s.start s.end c.exponent_row-row.result) at c.exponent_row-row.ensures.bound in
    record {
      value = value_more (span_in h f) (exponent_in h c.args.earlier.now c.args.block.now) b l.c c.exponent_row-row.result l.out c.put.new.out c.put.ensures row l.invariant.value;
      bound = bound_more (λ x. (span_in h f x).start) (λ x. (span_in h f x).end) b l.c c.exponent_row-row.result l.out c.put.new.out c.put.ensures small l.invariant.bound;
      blank = blank_more b l.c c.exponent_row-row.result l.out c.put.new.out c.put.ensures l.invariant.blank;
      rest = put_stays b l.c c.exponent_row-row.result _ l.out c.put.new.out c.put.ensures l.invariant.rest;
    }

pub returns-clause-value : goal.returns-clause-value
returns-clause-value c =
    holds_from c.args.head.now c.args.filled.now c.args.b c.loop-c.out (exponent_in c.args.head.now c.args.earlier.now c.args.block.now) c.loop-c.c (omega (arith, c.loop-c-test.false, c.coded-c-end.ensures.value)) c.loop-c.invariant.value c.loop-c.invariant.blank

pub returns-clause-rows : goal.returns-clause-rows
returns-clause-rows c = λ d k lt. c.loop-c.invariant.value d k (omega (arith, lt, c.loop-c-test.false, c.coded-c-end.ensures.value))
