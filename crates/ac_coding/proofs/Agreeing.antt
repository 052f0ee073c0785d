-- The frame depends on the coefficients at the bins of the spans alone, whatever the assignment.
use Rattle.std.proofs.Common.{◌≡◌, ℕ, zero, suc, ◌+◌, ◌-◌, ◌<◌, ◌≤◌, Bool, List, [], slice_index, slice_index_or, refl, ap, ap₂, sym, subst, ◌∙◌, inl, inr, arith}
use Rattle.std.specs.Prelude.{◌==◌, min, if◌then◌else◌}
use Rattle.std.proofs.lemmas.Bool.{cases_lt}
use Rattle.std.proofs.lemmas.List.{get_or_past}
use Rattle.ac_base.specs.declared.shapes.Shape.{Shape}
use Rattle.ac_base.specs.declared.spans.Span.{Span}
use Rattle.ac_base.specs.Spans.{IsIn, is_coupling}
use Rattle.ac_base.proofs.SpanBounds.{span_end}
use Rattle.ac_expo.specs.declared.word.Assign.{Assign}
use Rattle.ac_expo.specs.Greatest.{bin_least, step_least, raw_least, step_exponent, exponent_of, capped}
use Rattle.ac_expo.specs.Least.{spread}
use Rattle.ac_expo.specs.Raw.{channel_span, channels, raw_of}
use Rattle.ac_expo.specs.Steps.{step_of, last_step}
use Rattle.ac_coordinates.specs.declared.Coordinates.{Coordinates}
use Rattle.ac_mant.specs.Quantiser.{code_of}
use Rattle.ac_rows.specs.Filled.{listed}
use Rattle.ac_record.specs.Readings.{cell}
use Rattle.ac_cost.proofs.Exponents.{span_of_shape}
use Rattle.ac_sent.proofs.Listed.{length-listed}
use Rattle.ac_coding.specs.Laws.{FrameIsBySpans, FrameIsByCoefficients, Agree}
use Rattle.ac_coding.specs.Rows.{code_by}
use Rattle.ac_energy.specs.Coefficients.{Coefficients}
use Rattle.ac_coding.specs.Values.{raw_rows, run_at, exponent_at, exponents, pointer_by, codes, values_of}
use Rattle.ac_sent.specs.Packed.{IsPacked}
use Rattle.ac_coding.proofs.Entries.{spans_same}
use Rattle.ac_coding.proofs.GreatestRows.{raw_entry}

-- ---- the exponents of a run
bins_same : (rows others : List (List ℕ)) (from n k : ℕ) → ((b : ℕ) → slice_index (slice_index_or rows b []) k ≡ slice_index (slice_index_or others b []) k) → bin_least rows from n k ≡ bin_least others from n k
unfolding bin_least
bins_same rows others from zero k same = refl
bins_same rows others from (suc n) k same = ap₂ min (bins_same rows others from n k same) (same (from + n))

steps_same : (kind : ℕ) (span : Span) (f g : ℕ → ℕ) (n step : ℕ) → ((j : ℕ) → j < n → f (span.start + j) ≡ g (span.start + j)) → step_least kind span f n step ≡ step_least kind span g n step
unfolding step_least
steps_same kind span f g zero step same = refl
steps_same kind span f g (suc n) step same =
    let before = steps_same kind span f g n step (λ j lt. same j (omega (arith, lt))) in
    let here = same n (omega arith) in
    ap₂ (λ (x y : ℕ). if step_of kind span (span.start + n) == step then min x y else x) before here

least_same : (kind : ℕ) (span : Span) (rows others : List (List ℕ)) (from to : ℕ) → ((b k : ℕ) → IsIn span k → slice_index (slice_index_or rows b []) k ≡ slice_index (slice_index_or others b []) k)
    → (step : ℕ) → raw_least kind span rows from to step ≡ raw_least kind span others from to step
least_same kind span rows others from to same step =
    steps_same kind span (bin_least rows from (to - from)) (bin_least others from (to - from)) (span.end - span.start) step
    (λ j lt. bins_same rows others from (to - from) (span.start + j) (λ b. same b (span.start + j) (omega arith, omega (arith, lt))))

exponent_same : (kind : ℕ) (span : Span) (rows others : List (List ℕ)) (from to k : ℕ) → ((b j : ℕ) → IsIn span j → slice_index (slice_index_or rows b []) j ≡ slice_index (slice_index_or others b []) j)
    → exponent_of kind span rows from to k ≡ exponent_of kind span others from to k
unfolding step_exponent
exponent_same kind span rows others from to k same =
    let P = raw_least kind span rows from to in
    let Q = raw_least kind span others from to in
    let all : P ≡ Q = λ i j. least_same kind span rows others from to same j i in
    ap (λ (F : ℕ → ℕ). capped (is_coupling span.lead) (step_of kind span k) (spread (last_step kind span) F (step_of kind span k))) all

-- ---- of coefficients that agree
rows_past : (x : Coefficients) (c b : ℕ) → 6 ≤ b → slice_index_or (raw_rows x c) b [] ≡ []
rows_past x c b past =
    let long = length-listed 6 0 (λ a. listed 256 0 (λ k. raw_of (x c a k))) in
    get_or_past (raw_rows x c) b [] (omega (arith, long, past))

raws_same : (shape : Shape) (x y : Coefficients) → Agree shape x y → (c : ℕ) → c < channels shape → (b k : ℕ) → IsIn (channel_span shape c) k
    → slice_index (slice_index_or (raw_rows x c) b []) k ≡ slice_index (slice_index_or (raw_rows y c) b []) k
raws_same shape x y same c lt b k inside =
    let few : k < 256 = omega (arith, inside.1, span_end (channel_span shape c) (span_of_shape shape c)) in
    elim (cases_lt b 6) [
      | inl in_frame ↦ raw_entry x c b k in_frame few ∙ (ap raw_of (same c b k lt in_frame inside) ∙ sym (raw_entry y c b k in_frame few))
      | inr past ↦ ap (λ (l : List ℕ). slice_index l k) (rows_past x c b past ∙ sym (rows_past y c b past))
    ]

exponents_same : (shape : Shape) (x y : Coefficients) (assign : List (List ℕ)) → Agree shape x y → exponents shape x assign ≡ exponents shape y assign
unfolding exponents
exponents_same shape x y assign same =
    spans_same shape (exponent_at shape x assign) (exponent_at shape y assign)
    (λ c b k lt in_frame inside. exponent_same (run_at assign c b).kind (channel_span shape c) (raw_rows x c) (raw_rows y c) (run_at assign c b).from (run_at assign c b).to k (raws_same shape x y same c lt))

codes_same : (shape : Shape) (x y : Coefficients) (exps : List (List (List ℕ))) (t : ℕ) → Agree shape x y → codes shape x exps t ≡ codes shape y exps t
unfolding codes
codes_same shape x y exps t same =
    spans_same shape (code_by shape x exps t) (code_by shape y exps t)
    (λ c b k lt in_frame inside. ap (λ z. code_of z (cell exps c b k) (pointer_by shape exps t c b k)) (same c b k lt in_frame inside))

pub values_same : (shape : Shape) (x y : Coefficients) (t : ℕ) (assign : Assign) (remat : List Bool) (coords : Coordinates) → Agree shape x y → values_of shape x t assign remat coords ≡ values_of shape y t assign remat coords
unfolding values_of
values_same shape x y t assign remat coords same =
    let e = exponents_same shape x y assign.w same in
    ap₂ (λ (a b : List (List (List ℕ))). record { shape = shape; t = t; assign = assign; exps = a; codes = b; remat = remat; coords = coords }) e
    (codes_same shape x y (exponents shape x assign.w) t same ∙ ap (λ (a : List (List (List ℕ))). codes shape y a t) e)

pub by_spans : FrameIsBySpans
by_spans shape x y t assign remat coords frame same packed = subst (λ q. IsPacked q frame) (values_same shape x y t assign remat coords same) packed

pub by_coefficients : FrameIsByCoefficients
by_coefficients shape x y t assign remat coords frame same packed =
    by_spans shape x y t assign remat coords frame
    (λ c b k lt in_frame inside. same c b k lt in_frame (omega (arith, inside.1, span_end (channel_span shape c) (span_of_shape shape c)))) packed
