use Rattle.std.proofs.Common.{◌≡◌, ℕ, [], arith, sym, subst, slice_index_or}
use Rattle.ac_base.specs.declared.spans.Span.{Span}
use Rattle.ac_base.specs.Shape.{IsSpan}
use Rattle.ac_alloc.specs.Integration.{AreExponents}
use Rattle.ac_alloc.specs.Pointers.{pointer}
use Rattle.ac_rows.specs.Filled.{span_in}
use Rattle.ac_record.specs.Held.{is_silent, params_in, offset_of}
use Rattle.ac_reading.specs.Cells.{IsRow}
use Rattle.ac_reading.specs.Kept.{row_in, pointer_by}
use Rattle.ac_reading.specs.Mantissas.{span_at}
use Rattle.ac_reading.proofs.Keeping.{pointers_before}
use Rattle.ac_reading.proofs.Steps.{put_stays}
use Rattle.ac_reading.proofs.Rooms.{at_span, value_more, blank_more, small_more, holds_from}
use Rattle.ac_reading.proofs.pointers.put_pointers.Goals as goal

pub kept_row-row-requires-clause-span : goal.kept_row-row-requires-clause-span
kept_row-row-requires-clause-span c =
    subst IsSpan (sym (at_span c.args.head.now c.args.filled.now c.args.spans.now c.loop-c.c c.requires.spans (omega (arith, c.loop-c-test.true, c.coded-c-end.ensures.bound)))) (c.requires.coded c.loop-c.c (omega (arith, c.loop-c-test.true, c.coded-c-end.ensures.value)))

pub kept_row-row-requires-clause-exps : goal.kept_row-row-requires-clause-exps
kept_row-row-requires-clause-exps c =
    subst (λ (s : Span). AreExponents s.start s.end (slice_index_or (slice_index_or c.args.exps.now c.loop-c.c []) c.args.b [])) (sym (at_span c.args.head.now c.args.filled.now c.args.spans.now c.loop-c.c c.requires.spans (omega (arith, c.loop-c-test.true, c.coded-c-end.ensures.bound))))
    (c.requires.exps c.loop-c.c (omega (arith, c.loop-c-test.true, c.coded-c-end.ensures.value)))

pub kept_row-row-requires-clause-before : goal.kept_row-row-requires-clause-before
kept_row-row-requires-clause-before c =
    λ lt. pointers_before c.args.head.now c.args.b c.saturating_sub-last.result c.args.kept.now c.args.exps.now c.args.out.now c.loop-c.out c.loop-c.c c.saturating_sub-last.ensures c.requires.first c.requires.kept_spans c.requires.kept c.loop-c.invariant.rest lt

pub loop-c-preserved : goal.loop-c-preserved
loop-c-preserved c =
    let l = c.loop-c in
    let h = c.args.head.now in
    let f = c.args.filled.now in
    let b = c.args.b in
    let at : span_at c.args.spans.now l.c ≡ span_in h f l.c = at_span h f c.args.spans.now l.c c.requires.spans (omega (arith, c.loop-c-test.true, c.coded-c-end.ensures.bound)) in
    let row : IsRow (span_in h f l.c) (pointer_by h f b c.args.exps.now l.c) c.kept_row-row.result =
    subst (λ (s : Span). IsRow s (λ k. pointer (is_silent h f) (params_in h f l.c) s (row_in c.args.exps.now l.c b) k (offset_of h f l.c)) c.kept_row-row.result) at c.kept_row-row.ensures.value in
    record {
      value = value_more (span_in h f) (pointer_by h f b c.args.exps.now) b l.c c.kept_row-row.result l.out c.put.new.out c.put.ensures row l.invariant.value;
      small = small_more b l.c c.kept_row-row.result l.out c.put.new.out c.put.ensures c.kept_row-row.ensures.small l.invariant.small;
      blank = blank_more b l.c c.kept_row-row.result l.out c.put.new.out c.put.ensures l.invariant.blank;
      rest = put_stays b l.c c.kept_row-row.result _ l.out c.put.new.out c.put.ensures l.invariant.rest;
    }

pub returns-clause-value : goal.returns-clause-value
returns-clause-value c =
    holds_from c.args.head.now c.args.filled.now c.args.b c.loop-c.out (pointer_by c.args.head.now c.args.filled.now c.args.b c.args.exps.now) c.loop-c.c (omega (arith, c.loop-c-test.false, c.coded-c-end.ensures.value)) c.loop-c.invariant.value c.loop-c.invariant.blank

pub returns-clause-rows : goal.returns-clause-rows
returns-clause-rows c = λ d k lt. c.loop-c.invariant.value d k (omega (arith, lt, c.loop-c-test.false, c.coded-c-end.ensures.value))
