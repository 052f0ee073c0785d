-- The exponents of runs, and the spans of channels.
use Rattle.std.proofs.Common.{ℕ, ◌≤◌, Bool, true, false, List, [], slice_index_or, Option, Some, None, refl, arith}
use Rattle.std.specs.Prelude.{if◌then◌else◌, nat_lt, nat_eq}
use Rattle.std.proofs.lemmas.List.FromFn.{get_or-map-range_with_len}
use Rattle.ac_base.specs.declared.runs.Run.{Run}
use Rattle.ac_base.specs.declared.shapes.Shape.{Shape}
use Rattle.ac_base.specs.declared.spans.Span.{Span}
use Rattle.ac_base.specs.Shape.{IsSpan, IsCoupling, full_of, full_span, next_span, low_span, span_of}
use Rattle.ac_base.proofs.SpanBounds.{span_end}
use Rattle.ac_expo.specs.Raw.{channel_span}
use Rattle.ac_expo.specs.Greatest.{exponent_of, IsByFormula}
use Rattle.ac_expo.proofs.Formula.{formula}
use Rattle.ac_cost.specs.Pointers.{run_exps}
use Rattle.ac_cost.specs.Laws.{RunExponentsAreGreatest}

-- ---- spans
either : (b : Bool) (x y : Span) → IsSpan x → IsSpan y → IsSpan (if b then x else y)
either true x y p q = p
either false x y p q = q

full_is : (acmod bw : ℕ) (couple : Option (ℕ × ℕ)) → bw ≤ 60 → IsCoupling acmod couple → IsSpan (full_span bw couple)
full_is acmod bw None l is = (refl, (bw, l, refl))
full_is acmod bw (Some p) l is = (refl, (p.0, (is p refl).1, refl))

next_is : (acmod : ℕ) (couple : Option (ℕ × ℕ)) → IsCoupling acmod couple → IsSpan (next_span couple)
next_is acmod None is = (refl, refl)
next_is acmod (Some p) is = let h = is p refl in (p.0, p.1, h.1, h.2, h.3, refl, refl)

span_is : (acmod bw : ℕ) (couple : Option (ℕ × ℕ)) (c : ℕ) → bw ≤ 60 → IsCoupling acmod couple → IsSpan (span_of acmod bw couple c)
span_is acmod bw couple c l is =
    either (nat_lt c (full_of acmod)) (full_span bw couple) (if nat_eq c (full_of acmod) then next_span couple else low_span) (full_is acmod bw couple l is) (either (nat_eq c (full_of acmod)) (next_span couple) low_span (next_is acmod couple is) (refl, refl))

pub span_of_shape : (shape : Shape) (c : ℕ) → IsSpan (channel_span shape c)
span_of_shape shape c = span_is shape.acmod shape.bw shape.couple c shape.bandwidth shape.coupling

-- ---- exponents
pub run_exps_are : (shape : Shape) (raw : List (List (List ℕ))) (c : ℕ) (run : Run) → IsByFormula run.kind (channel_span shape c) (slice_index_or raw c []) run.from run.to (run_exps shape raw c run)
unfolding run_exps
run_exps_are shape raw c run k is =
    let end = span_end (channel_span shape c) (span_of_shape shape c) in
    get_or-map-range_with_len (exponent_of run.kind (channel_span shape c) (slice_index_or raw c []) run.from run.to) 0 253 k k 0 (omega (arith, is.1, end)) (omega arith)

pub greatest : RunExponentsAreGreatest
greatest shape raw c run is =
    formula run.kind (channel_span shape c) (slice_index_or raw c []) run.from run.to (run_exps shape raw c run) (span_of_shape shape c) (is.is_run.some, is.taken) (run_exps_are shape raw c run)
