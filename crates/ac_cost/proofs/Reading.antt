-- Exponents outside a span aren't read: lists that agree on its bins have the same masks and pointers.
use Rattle.std.proofs.Common.{◌≡◌, ℕ, zero, suc, ◌+◌, ◌-◌, ◌*◌, ◌<◌, ◌≤◌, List, slice_index, sym, ap, ◌∙◌, inl, inr, arith}
use Rattle.std.proofs.lemmas.Bool.{cases_lt}
use Rattle.ac_base.specs.declared.spans.Span.{Span}
use Rattle.ac_base.specs.Allocation.{bndtab_list, masktab_list, hth_list}
use Rattle.ac_base.specs.Shape.{IsSpan}
use Rattle.ac_base.specs.Spans.{IsIn}
use Rattle.ac_base.proofs.SpanBounds.{span_some}
use Rattle.ac_alloc.specs.declared.params.Params.{Params}
use Rattle.ac_alloc.specs.Codes.{knee, floor_of}
use Rattle.ac_alloc.specs.Integration.{psd, logadd, folded, first_bin, last_bin, bndpsd}
use Rattle.ac_alloc.specs.Excitation.{excite_by}
use Rattle.ac_alloc.specs.Masking.{mask, masked, first_band}
use Rattle.ac_alloc.specs.Pointers.{bap, bap_at}
use Rattle.ac_alloc.proofs.Folds.{bndpsd_meets, bndpsd_after, bndpsd_before}

-- two lists agree on the bins of a span
abbrev pub Agree : Span → List ℕ → List ℕ → Type 0
Agree span exps others = (k : ℕ) → IsIn span k → slice_index exps k ≡ slice_index others k

folded_same : (f g : ℕ → ℕ) (a n : ℕ) → ((j : ℕ) → a ≤ j → j ≤ a + n → f j ≡ g j) → folded f a n ≡ folded g a n
folded_same f g a zero h = h a (omega arith) (omega arith)
folded_same f g a (suc n) h =
    let rest = folded_same f g a n (λ j p q. h j p (omega arith)) in
    let here = h (a + suc n) (omega arith) (omega arith) in
    ap (λ x. logadd x (f (a + suc n))) rest ∙ ap (logadd (folded g a n)) here

bndpsd_same : (span : Span) (exps others : List ℕ) → span.start < span.end → Agree span exps others → (b : ℕ) → bndpsd span.start span.end exps b ≡ bndpsd span.start span.end others b
bndpsd_same span exps others some same b =
    elim (cases_lt (slice_index bndtab_list b) span.end) [
      | inl early ↦
          elim (cases_lt span.start (slice_index bndtab_list (b + 1))) [
            | inl late ↦
                let a = first_bin span.start b in
                let n = last_bin span.end b - first_bin span.start b in
                let bins = folded_same (psd exps) (psd others) a n (λ j p q. ap (λ e. 3072 - 128 * e) (same j (omega arith, omega arith))) in
                bndpsd_meets span.start span.end exps b early late ∙ bins ∙ sym (bndpsd_meets span.start span.end others b early late)
            | inr past ↦ bndpsd_before span.start span.end exps b past ∙ sym (bndpsd_before span.start span.end others b past)
          ]
      | inr past ↦ bndpsd_after span.start span.end exps b past ∙ sym (bndpsd_after span.start span.end others b past)
    ]

pub mask_same : (p : Params) (span : Span) (exps others : List ℕ) → IsSpan span → Agree span exps others → (b : ℕ) → mask p span exps b ≡ mask p span others b
mask_same p span exps others is same b =
    let P = bndpsd span.start span.end exps in
    let Q = bndpsd span.start span.end others in
    let all : P ≡ Q = λ i j. bndpsd_same span exps others (span_some span is) same j i in
    ap (λ (F : ℕ → ℕ). masked (excite_by span.lead p (first_band span) F b) (knee p) (F b) (slice_index (hth_list p.fscod) b)) all

pub bap_same : (p : Params) (span : Span) (exps others : List ℕ) → IsSpan span → Agree span exps others → (k t : ℕ) → IsIn span k → bap_at p span exps k t ≡ bap_at p span others k t
bap_same p span exps others is same k t inside =
    let b = slice_index masktab_list k in
    ap (λ m. bap m (floor_of p) (psd exps k) t) (mask_same p span exps others is same b)
    ∙ ap (λ e. bap (mask p span others b) (floor_of p) (3072 - 128 * e) t) (same k inside)
