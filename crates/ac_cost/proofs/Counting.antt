-- Counts of runs.
use Rattle.std.proofs.Common.{◌≡◌, ℕ, suc, ◌+◌, ◌-◌, ◌<◌, ◌≤◌, pos, Bool, true, false, List, slice_index, slice_index_or, sym, ap, ap₂, ◌∙◌, subst, arith}
use Rattle.std.specs.Prelude.{if◌then◌else◌, ◌==◌}
use Rattle.ac_base.specs.declared.runs.Run.{Run}
use Rattle.ac_base.specs.declared.shapes.Shape.{Shape}
use Rattle.ac_base.specs.declared.spans.Span.{Span}
use Rattle.ac_base.specs.Allocation.{masktab_list}
use Rattle.ac_base.specs.Counts.{Tally, with_one}
use Rattle.ac_base.specs.Fit.{tally_bins, tally_span}
use Rattle.ac_base.specs.Spans.{IsIn}
use Rattle.ac_base.proofs.AllocationTables.{baps_small}
use Rattle.ac_base.proofs.SpanBounds.{span_some, span_end}
use Rattle.ac_expo.specs.Raw.{channel_span}
use Rattle.ac_alloc.specs.Codes.{encoder_params}
use Rattle.ac_alloc.specs.Integration.{psd}
use Rattle.ac_alloc.specs.Masking.{first_band, last_band}
use Rattle.ac_alloc.specs.Pointers.{address, level, bap, bap_at}
use Rattle.ac_alloc.proofs.Spans.{bands_rise}
use Rattle.std.specs.Prelude.{◌^◌}
use Rattle.ac_mant.specs.declared.counts.Counts.{Counts}
use Rattle.ac_mant.specs.Counts.{tally, AreWithin}
use Rattle.ac_cost.specs.declared.listed.Listed.{Listed}
use Rattle.ac_cost.specs.Lists.{IsListed}
use Rattle.ac_cost.specs.Prices.{AreFew}
use Rattle.ac_cost.specs.Pointers.{run_exps, run_bap, run_tally}
use Rattle.ac_cost.proofs.Exponents.{span_of_shape}
use Rattle.ac_cost.proofs.Reading.{bap_same}
use Rattle.ac_cost.proofs.Tallying.{bins_same, bins_none, bins_more, bins_within, IsWithin}

-- the pointer of a bin by what is held of its run
abbrev pub held_bap : Listed → ℕ → ℕ → ℕ
held_bap listed t k = if t == 0 then 0 else bap (slice_index_or listed.mask.m (slice_index masktab_list k) (pos 0)) listed.mask.floor (psd listed.exps k) t

bounded : (b : Bool) (x y m : ℕ) → x ≤ m → y ≤ m → (if b then x else y) ≤ m
bounded true x y m p q = p
bounded false x y m p q = q

pub held-small : (listed : Listed) (t k : ℕ) → held_bap listed t k ≤ 15
held-small listed t k =
    let m = slice_index_or listed.mask.m (slice_index masktab_list k) (pos 0) in
    bounded (t == 0) 0 (bap m listed.mask.floor (psd listed.exps k) t) 15 (omega arith) (baps_small (address (level m listed.mask.floor t) (psd listed.exps k)) (omega arith))

pub held-is : (shape : Shape) (raw : List (List (List ℕ))) (t c : ℕ) (run : Run) (listed : Listed) → IsListed shape raw c run listed → (k : ℕ) → IsIn (channel_span shape c) k → held_bap listed t k ≡ run_bap shape raw t c run k
unfolding run_bap
held-is shape raw t c run listed is k inside =
    let span = channel_span shape c in
    let p = encoder_params shape.fscod shape.sampling in
    let end = span_end span (span_of_shape shape c) in
    let some = span_some span (span_of_shape shape c) in
    let b = slice_index masktab_list k in
    let low : first_band span ≤ b = bands_rise span.start k inside.0 (omega (arith, inside.1, end)) in
    let high : b ≤ last_band span = bands_rise k (span.end - 1) (omega (arith, inside.1)) (omega (arith, some, end)) in
    let here : bap (slice_index_or listed.mask.m b (pos 0)) listed.mask.floor (psd listed.exps k) t ≡ bap_at p span listed.exps k t =
    ap₂ (λ m f. bap m f (psd listed.exps k) t) (is.masks b low high) is.floor in
    let there = bap_same p span listed.exps (run_exps shape raw c run) (span_of_shape shape c) is.exps k t inside in
    ap (λ x. if t == 0 then 0 else x) (here ∙ there)

pub held-tally : (shape : Shape) (raw : List (List (List ℕ))) (t c : ℕ) (run : Run) (listed : Listed) (span : Span) (pointers : List ℕ) → span ≡ channel_span shape c → ((k : ℕ) → span.start ≤ k → k < span.end → slice_index pointers k ≡ held_bap listed t k) → IsListed shape raw c run listed → tally_span (slice_index pointers) span ≡ run_tally shape raw t c run
held-tally shape raw t c run listed span pointers es pointed is =
    let S = channel_span shape c in
    let some = span_some S (span_of_shape shape c) in
    let P : Span → Type 0 = λ s. (k : ℕ) → s.start ≤ k → k < s.end → slice_index pointers k ≡ held_bap listed t k in
    let at : P S = subst P es pointed in
    ap (tally_span (slice_index pointers)) es
    ∙ bins_same (slice_index pointers) (run_bap shape raw t c run) S.start (S.end - S.start) (λ k p q. let r : k < S.end = omega arith in at k p r ∙ held-is shape raw t c run listed is k (p, r))

-- ---- the loop
pub count-more : (f : ℕ → ℕ) (start k : ℕ) (s t : Tally) → start ≤ k → s ≡ tally_bins f start (k - start) → t ≡ with_one s (f k) → t ≡ tally_bins f start (k + 1 - start)
count-more f start k s t l so next =
    let e : k + 1 - start ≡ suc (k - start) = omega arith in
    let at : start + (k - start) ≡ k = omega arith in
    next ∙ ap₂ with_one so (ap f (sym at)) ∙ sym (bins_more f start (k - start)) ∙ ap (tally_bins f start) (sym e)

pub count-none : (f : ℕ → ℕ) (start : ℕ) (t : Tally) → t ≡ record { linear = 0; n1 = 0; n2 = 0; n4 = 0 } → t ≡ tally_bins f start (start - start)
count-none f start t e =
    let z : start - start ≡ 0 = omega arith in
    e ∙ sym (bins_none f start) ∙ ap (tally_bins f start) (sym z)

pub counts-small : (counts : Counts) (f : ℕ → ℕ) (start n : ℕ) → tally counts ≡ tally_bins f start n → n ≤ 253 → AreWithin (2 ^ 20 - 1) counts
counts-small counts f start n e l =
    let w : IsWithin n (tally counts) = subst (IsWithin n) (sym e) (bins_within f start n) in
    (omega (arith, w.linear), omega (arith, w.n1), omega (arith, w.n2), omega (arith, w.n4))

-- a run has as few as its bins
pub run-few : (shape : Shape) (raw : List (List (List ℕ))) (t c : ℕ) (run : Run) (counts : Counts) → tally counts ≡ run_tally shape raw t c run → AreFew 1 counts
run-few shape raw t c run counts e =
    let span = channel_span shape c in
    let end = span_end span (span_of_shape shape c) in
    let n = span.end - span.start in
    let w : IsWithin n (tally counts) = subst (IsWithin n) (sym e) (bins_within (run_bap shape raw t c run) span.start n) in
    (omega (arith, w.linear, end), omega (arith, w.n1, end), omega (arith, w.n2, end), omega (arith, w.n4, end))
