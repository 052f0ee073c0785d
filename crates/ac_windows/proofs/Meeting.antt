-- What is held of a run beside what it costs.
use Rattle.std.proofs.Common.{◌≡◌, ℕ, zero, suc, ◌+◌, ◌-◌, ◌/◌, ◌<◌, ◌≤◌, List, [], slice_index, slice_index_or, refl, sym, ap, ap₂, ◌∙◌, subst, arith}
use Rattle.std.specs.Prelude.{◌==◌}
use Rattle.std.proofs.lemmas.Bool.{ne_eqb, cond-false}
use Rattle.ac_base.specs.declared.runs.Run.{Run}
use Rattle.ac_base.specs.declared.shapes.Shape.{Shape}
use Rattle.ac_base.specs.declared.spans.Span.{Span}
use Rattle.ac_base.specs.Allocation.{masktab_list}
use Rattle.ac_base.specs.Counts.{Tally, none, with_one, sixths_of}
use Rattle.ac_base.specs.Fit.{tally_bins, tally_span}
use Rattle.ac_base.proofs.SpanBounds.{span_some}
use Rattle.ac_expo.specs.Raw.{channel_span}
use Rattle.ac_alloc.specs.declared.params.Params.{Params}
use Rattle.ac_alloc.specs.Codes.{encoder_params}
use Rattle.ac_alloc.specs.Integration.{psd}
use Rattle.ac_alloc.specs.Keys.{pointer_above, sixths_by}
use Rattle.ac_alloc.specs.Masking.{mask}
use Rattle.ac_alloc.specs.Pointers.{bap, bap_at}
use Rattle.ac_cost.specs.Runs.{IsRunOf}
use Rattle.ac_cost.specs.Rows.{run_of, row_of, rows_of}
use Rattle.ac_cost.specs.Pointers.{run_exps, run_bap, run_tally}
use Rattle.ac_cost.proofs.Exponents.{span_of_shape}
use Rattle.ac_cost.proofs.Listing.{run_back, row_below}
use Rattle.ac_cost.proofs.Pricing.{run_bap-silent, run_bap-heard, run_bap-small}
use Rattle.ac_cost.proofs.Tallying.{bins_none, bins_more, bins_same}
use Rattle.ac_sixths.specs.Keys.{weight}
use Rattle.ac_sixths.specs.Runs.{column, AreHeld, IsRun, total_from, total_over, span_sixths}
use Rattle.ac_sixths.proofs.Keyed.{baps_are_by_key, index_is, weights_are_sixths}
use Rattle.ac_sixths.proofs.Meanings.{none_at}
use Rattle.ac_windows.specs.Held.{IsHeld}
use Rattle.ac_windows.specs.Packing.{pointer_of}
use Rattle.ac_windows.specs.Windows.{block_sixths}

-- ---- at offset 0
none_more : (f : ℕ → ℕ) (a n : ℕ) → ((k : ℕ) → f k ≡ 0) → tally_bins f a n ≡ none
none_more f a zero h = bins_none f a
none_more f a (suc n) h = bins_more f a n ∙ ap₂ with_one (none_more f a n h) (h (a + n))

pub silent_tally : (shape : Shape) (raw : List (List (List ℕ))) (t c : ℕ) (run : Run) → t ≡ 0 → run_tally shape raw t c run ≡ none
silent_tally shape raw t c run e =
    let s = channel_span shape c in
    ap (λ (x : ℕ). run_tally shape raw x c run) e ∙ none_more (run_bap shape raw 0 c run) s.start (s.end - s.start) (run_bap-silent shape raw c run)

-- ---- sixths
one_more : (t : Tally) (bap : ℕ) → sixths_of (with_one t bap) ≡ sixths_of t + sixths_by bap
one_more t bap = omega arith

total_is : (f g : ℕ → ℕ) (a n : ℕ) → ((k : ℕ) → a ≤ k → k < a + n → (f k ≤ 15) × (f k ≡ g k)) → total_from (λ k. weight (g k)) a n ≡ sixths_of (tally_bins f a n)
unfolding total_from
total_is f g a zero h = sym (ap sixths_of (bins_none f a))
total_is f g a (suc n) h =
    let here = h (a + n) (omega arith) (omega arith) in
    let w = ap weight (sym here.1) ∙ weights_are_sixths (f (a + n)) here.0 in
    ap₂ (λ x y. x + y) (total_is f g a n (λ k p q. h k p (omega arith))) w
    ∙ sym (ap sixths_of (bins_more f a n) ∙ one_more (tally_bins f a n) (f (a + n)))

pub sixths_meet : (shape : Shape) (raw : List (List (List ℕ))) (t c : ℕ) (run : Run) → span_sixths (encoder_params shape.fscod shape.sampling) (channel_span shape c) (run_exps shape raw c run) t ≡ block_sixths shape raw t c run
sixths_meet shape raw zero c run =
    none_at (encoder_params shape.fscod shape.sampling) (channel_span shape c) (run_exps shape raw c run) 0 refl ∙ sym (ap sixths_of (silent_tally shape raw 0 c run refl))
sixths_meet shape raw (suc t) c run =
    let s = channel_span shape c in
    let p = encoder_params shape.fscod shape.sampling in
    let exps = run_exps shape raw c run in
    let f = run_bap shape raw (suc t) c run in
    let g = λ (k : ℕ). bap_at p s exps k (suc t) in
    let all = total_is f g s.start (s.end - s.start) (λ k l m. (run_bap-small shape raw (suc t) c run k, run_bap-heard shape raw (suc t) c run k (omega arith))) in
    cond-false (suc t == 0) 0 (total_over s (λ k. weight (g k))) (ne_eqb (suc t) 0 (omega arith)) ∙ all

-- a row of a window by its run
row_meets : (shape : Shape) (raw : List (List (List ℕ))) (t0 c : ℕ) (levels bases six : List (List ℕ)) → IsHeld shape raw c levels bases → ((l : ℕ) → l < rows_of (channel_span shape c).lead → (p : Params) (exps : List ℕ) → IsRun p (channel_span shape c) exps (slice_index_or levels l []) (column bases l) → (j : ℕ) → j < 16 → slice_index (slice_index_or six l []) j ≡ span_sixths p (channel_span shape c) exps (t0 + j)) → (run : Run) (j : ℕ) → IsRunOf shape c run → j < 16 → slice_index (slice_index_or six (row_of run) []) j ≡ block_sixths shape raw (t0 + j) c run
row_meets shape raw t0 c levels bases six held rows run j is l =
    let s = channel_span shape c in
    let p = encoder_params shape.fscod shape.sampling in
    let row = row_of run in
    let below = row_below shape c run is in
    let exps = run_exps shape raw c (run_of row) in
    rows row below p exps (held row below).run j l ∙ sixths_meet shape raw (t0 + j) c (run_of row) ∙ ap (block_sixths shape raw (t0 + j) c) (run_back run is.is_run)

pub row_meets_at : (shape : Shape) (raw : List (List (List ℕ))) (t0 c : ℕ) (span : Span) (count : ℕ) (levels bases six : List (List ℕ)) → span ≡ channel_span shape c → count ≡ rows_of (channel_span shape c).lead → IsHeld shape raw c levels bases → ((l : ℕ) → 0 ≤ l → l < count → (p : Params) (exps : List ℕ) → IsRun p span exps (slice_index_or levels l []) (column bases l) → (j : ℕ) → j < 16 → slice_index (slice_index_or six l []) j ≡ span_sixths p span exps (t0 + j)) → (run : Run) (j : ℕ) → IsRunOf shape c run → j < 16 → slice_index (slice_index_or six (row_of run) []) j ≡ block_sixths shape raw (t0 + j) c run
row_meets_at shape raw t0 c span count levels bases six es ec held rows =
    let F : Span → Type 0 = λ s. (l : ℕ) → 0 ≤ l → l < count → (p : Params) (exps : List ℕ) → IsRun p s exps (slice_index_or levels l []) (column bases l) → (j : ℕ) → j < 16 → slice_index (slice_index_or six l []) j ≡ span_sixths p s exps (t0 + j) in
    let all : F (channel_span shape c) = subst F es rows in
    row_meets shape raw t0 c levels bases six held (λ l below. all l (omega arith) (omega (arith, ec, below)))

-- what is held of a run's row is as its kind asks
pub row_held : (shape : Shape) (raw : List (List (List ℕ))) (c : ℕ) (run : Run) (row : ℕ) (span : Span) (levels bases : List (List ℕ)) → IsHeld shape raw c levels bases → IsRunOf shape c run → row ≡ row_of run → span ≡ channel_span shape c → AreHeld (row / 21 + 1) span (slice_index_or levels row []) (column bases row)
row_held shape raw c run row span levels bases held is er es =
    let below = row_below shape c run is in
    subst (λ (x : Span). AreHeld (row / 21 + 1) x (slice_index_or levels row []) (column bases row)) (sym es)
    (held row (omega (arith, er, below))).small

-- the sixths of one run
pub run_meets : (shape : Shape) (raw : List (List (List ℕ))) (t0 c : ℕ) (run : Run) (row : ℕ) (span : Span) (levels bases : List (List ℕ)) (six : List ℕ) → IsHeld shape raw c levels bases → IsRunOf shape c run → row ≡ row_of run → span ≡ channel_span shape c → ((p : Params) (exps : List ℕ) → IsRun p span exps (slice_index_or levels row []) (column bases row) → (j : ℕ) → j < 16 → slice_index six j ≡ span_sixths p span exps (t0 + j)) → (j : ℕ) → j < 16 → slice_index six j ≡ block_sixths shape raw (t0 + j) c run
run_meets shape raw t0 c run row span levels bases six held is er es sums j l =
    let F : Span → Type 0 = λ s. (p : Params) (exps : List ℕ) → IsRun p s exps (slice_index_or levels row []) (column bases row) → (j : ℕ) → j < 16 → slice_index six j ≡ span_sixths p s exps (t0 + j) in
    let all : F (channel_span shape c) = subst F es sums in
    let p = encoder_params shape.fscod shape.sampling in
    let below : row < rows_of (channel_span shape c).lead = omega (arith, er, row_below shape c run is) in
    let same : run_of row ≡ run = ap run_of er ∙ run_back run is.is_run in
    all p (run_exps shape raw c (run_of row)) (held row below).run j l ∙ sixths_meet shape raw (t0 + j) c (run_of row) ∙ ap (block_sixths shape raw (t0 + j) c) same

-- ---- pointers
pointer_meets : (p : Params) (s : Span) (exps levels bases : List ℕ) (t k : ℕ) → IsRun p s exps levels bases → t ≤ 1023 → s.start ≤ k → k < s.end → pointer_of levels bases t k ≡ bap_at p s exps k t
pointer_meets p s exps levels bases t k run h l m =
    let b = slice_index masktab_list k in
    let x = mask p s exps b in
    let e = run.1 k l m in
    let q = run.2 k l m in
    let i = index_is x (slice_index exps k) t (slice_index bases b) (slice_index levels k) q.0 e.0 h q.1 e.1 in
    ap pointer_above i.1 ∙ sym (baps_are_by_key x (slice_index exps k) t q.0 e.0) ∙ ap (λ v. bap x v (psd exps k) t) (sym run.0)

-- the tally of a run by its row
pub tally_meets : (shape : Shape) (raw : List (List (List ℕ))) (t c : ℕ) (run : Run) (row : ℕ) (span : Span) (levels bases : List (List ℕ)) → IsHeld shape raw c levels bases → IsRunOf shape c run → row ≡ row_of run → span ≡ channel_span shape c → 0 < t → t ≤ 1023 → tally_span (pointer_of (slice_index_or levels row []) (column bases row) t) span ≡ run_tally shape raw t c run
tally_meets shape raw t c run row span levels bases held is er es some most =
    let s = channel_span shape c in
    let p = encoder_params shape.fscod shape.sampling in
    let at = row_of run in
    let below = row_below shape c run is in
    let last = span_some s (span_of_shape shape c) in
    let f = λ (r : ℕ). pointer_of (slice_index_or levels r []) (column bases r) t in
    let g = run_bap shape raw t c (run_of at) in
    let exps = run_exps shape raw c (run_of at) in
    let same = bins_same (f at) g s.start (s.end - s.start) (λ k l m. pointer_meets p s exps (slice_index_or levels at []) (column bases at) t k (held at below).run most l (omega arith) ∙ sym (run_bap-heard shape raw t c (run_of at) k some)) in
    ap₂ (λ (r : ℕ) (x : Span). tally_span (f r) x) er es ∙ same ∙ ap (run_tally shape raw t c) (run_back run is.is_run)
