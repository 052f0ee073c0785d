-- The mantissas of a block cost what the tally of its channels says, in whatever order they stand.
use Rattle.std.proofs.Common.{◌≡◌, ℕ, zero, suc, ◌+◌, ◌-◌, ◌<◌, ◌&&◌, Bool, true, false, List, [], ◌∷◌, ◌++◌, map, length, refl, ap, ap₂, sym, ◌∙◌, arith}
use Rattle.std.specs.Prelude.{is_some, not, nat_lt, if◌then◌else◌}
use Rattle.std.specs.List.{range_with_len}
use Rattle.std.proofs.lemmas.Bool.{lt-ltb}
use Rattle.std.proofs.lemmas.List.FromFn.{get_or-map-range_with_len, length-map-range_with_len}
use Rattle.ac_base.specs.declared.spans.Span.{Span}
use Rattle.ac_base.specs.Counts.{Tally, none, joined, tally_of, exact_of}
use Rattle.ac_base.specs.Fit.{tally_bins, tally_span, tally_channels, mantissas_in}
use Rattle.ac_base.specs.Shape.{full_of, count_of, coded_of, span_of}
use Rattle.ac_base.proofs.Tallies.{join, joined-none, joined-swap, joined-assoc, tally_of_bins}
use Rattle.ac_expo.specs.Raw.{channel_span}
use Rattle.ac_mant.specs.Groups.{closed, zeros, spelled}
use Rattle.ac_mant.proofs.Costs.{whole_cost}
use Rattle.ac_record.specs.Order.{with_coupling, order_of, over_bins, over_channels}
use Rattle.ac_sent.specs.Values.{Quantised}
use Rattle.ac_sent.specs.Fields.{pointer_at}
use Rattle.ac_sent.specs.Packed.{sent_mantissas}
use Rattle.ac_sent.proofs.Tests.{and_not}
use Rattle.ac_sent.proofs.Spans.{full_least}
use Rattle.ac_sent.proofs.HeldPointers.{sent_order, pointers_sent}

-- ---- of a span, and of channels in an order
bins_tally : (f : ℕ → ℕ) (span : Span) → tally_of (over_bins f span) ≡ tally_span f span
bins_tally f span =
    let n = span.end - span.start in
    let long = length-map-range_with_len f span.start n in
    tally_of_bins f span.start (map f (range_with_len span.start n)) (λ k l. get_or-map-range_with_len f span.start n k (span.start + k) 0 (omega (arith, l, long)) refl)
    ∙ ap (tally_bins f span.start) long

joined_all : (ℕ → Tally) → List ℕ → Tally
joined_all t [] = none
joined_all t (c ∷ cs) = joined (t c) (joined_all t cs)

channels_tally : (span : ℕ → Span) (cs : List ℕ) (f : ℕ → ℕ → ℕ) → tally_of (over_channels span cs f) ≡ joined_all (λ c. tally_span (f c) (span c)) cs
unfolding over_channels joined_all
channels_tally span [] f = refl
channels_tally span (c ∷ cs) f =
    join (over_bins (f c) (span c)) (over_channels span cs f) ∙ ap₂ joined (bins_tally (f c) (span c)) (channels_tally span cs f)

none-joined : (t : Tally) → joined none t ≡ t
none-joined t = joined-swap none t ∙ joined-none t

all_append : (t : ℕ → Tally) (cs ds : List ℕ) → joined_all t (cs ++ ds) ≡ joined (joined_all t cs) (joined_all t ds)
unfolding joined_all
all_append t [] ds = sym (none-joined (joined_all t ds))
all_append t (c ∷ cs) ds = ap (joined (t c)) (all_append t cs ds) ∙ sym (joined-assoc (t c) (joined_all t cs) (joined_all t ds))

-- ---- n channels from a number on
from_on : (ℕ → Tally) → ℕ → ℕ → Tally
from_on t i zero = none
from_on t i (suc n) = joined (t i) (from_on t (suc i) n)

from_more : (t : ℕ → Tally) (i n : ℕ) → from_on t i (suc n) ≡ joined (from_on t i n) (t (i + n))
unfolding from_on
from_more t i zero = joined-none (t i) ∙ (ap t (omega arith) ∙ sym (none-joined (t (i + 0))))
from_more t i (suc n) =
    ap (joined (t i)) (from_more t (suc i) n) ∙ (sym (joined-assoc (t i) (from_on t (suc i) n) (t (suc i + n))) ∙ ap (λ k. joined (joined (t i) (from_on t (suc i) n)) (t k)) (omega arith))

from_none : (t : ℕ → Tally) (i : ℕ) → from_on t i 0 ≡ none
unfolding from_on
from_none t i = refl

channels_none : (span : ℕ → Span) (f : ℕ → ℕ → ℕ) → tally_channels span 0 f ≡ none
unfolding tally_channels
channels_none span f = refl

channels_more : (span : ℕ → Span) (n : ℕ) (f : ℕ → ℕ → ℕ) → tally_channels span (suc n) f ≡ joined (tally_channels span n f) (tally_span (f n) (span n))
unfolding tally_channels
channels_more span n f = refl

channels_from : (span : ℕ → Span) (n : ℕ) (f : ℕ → ℕ → ℕ) → tally_channels span n f ≡ from_on (λ c. tally_span (f c) (span c)) 0 n
channels_from span zero f = channels_none span f ∙ sym (from_none (λ c. tally_span (f c) (span c)) 0)
channels_from span (suc n) f =
    let t : ℕ → Tally = λ c. tally_span (f c) (span c) in
    channels_more span n f ∙ (ap₂ joined (channels_from span n f) (ap t (omega arith)) ∙ sym (from_more t 0 n))

-- ---- the order
pick : {A : Type 0} (b : Bool) (x y : A) → b ≡ false → (if b then x else y) ≡ y
pick b x y e = rw e refl

pick_first : {A : Type 0} (b : Bool) (x y : A) → b ≡ true → (if b then x else y) ≡ x
pick_first b x y e = rw e refl

came_all : (t : ℕ → Tally) (p : ℕ → Bool) (shared i n : ℕ) → joined_all t (with_coupling p shared true i n) ≡ from_on t i n
unfolding with_coupling joined_all from_on
came_all t p shared i zero = refl
came_all t p shared i (suc n) =
    ap (joined_all t) (pick (p i && false) (i ∷ shared ∷ with_coupling p shared true (suc i) n) (i ∷ with_coupling p shared true (suc i) n) (and_not (p i) false refl))
    ∙ ap (joined (t i)) (came_all t p shared (suc i) n)

-- the coupling channel's stands behind the first channel's
turned : (a b c : Tally) → joined a (joined b c) ≡ joined (joined a c) b
turned a b c = ap (joined a) (joined-swap b c) ∙ sym (joined-assoc a c b)

coupling_all : (t : ℕ → Tally) (p : ℕ → Bool) (shared n : ℕ) → p 0 ≡ true → 0 < n → joined_all t (with_coupling p shared false 0 n) ≡ joined (from_on t 0 n) (t shared)
unfolding with_coupling joined_all from_on
coupling_all t p shared zero e some = absurd (omega arith)
coupling_all t p shared (suc n) e some =
    ap (joined_all t) (pick_first (p 0 && true) (0 ∷ shared ∷ with_coupling p shared true 1 n) (0 ∷ with_coupling p shared false 1 n) (rw e refl))
    ∙ (ap (λ x. joined (t 0) (joined (t shared) x)) (came_all t p shared 1 n) ∙ turned (t 0) (t shared) (from_on t 1 n))

one_all : (t : ℕ → Tally) (c : ℕ) → joined_all t (c ∷ []) ≡ t c
unfolding joined_all
one_all t c = joined-none (t c)

none_all : (t : ℕ → Tally) → joined_all t [] ≡ none
unfolding joined_all
none_all t = refl

fulls_all : (t : ℕ → Tally) (p : ℕ → Bool) (full : ℕ) (used : Bool) → (used ≡ true → p 0 ≡ true) → 0 < full → joined_all t (with_coupling p full (not used) 0 full) ≡ from_on t 0 (full + count_of used)
fulls_all t p full true first some = coupling_all t p full full (first refl) some ∙ (sym (from_more t 0 full ∙ ap (λ k. joined (from_on t 0 full) (t k)) (omega arith)) ∙ ap (from_on t 0) (omega arith))
fulls_all t p full false first some = came_all t p full 0 full ∙ ap (from_on t 0) (omega arith)

order_all : (t : ℕ → Tally) (p : ℕ → Bool) (full : ℕ) (used low : Bool) → (used ≡ true → p 0 ≡ true) → 0 < full → joined_all t (order_of p full used low) ≡ from_on t 0 (full + count_of used + count_of low)
unfolding order_of
order_all t p full used true first some =
    all_append t (with_coupling p full (not used) 0 full) ((full + count_of used) ∷ [])
    ∙ (ap₂ joined (fulls_all t p full used first some) (one_all t (full + count_of used))
    ∙ (sym (from_more t 0 (full + count_of used) ∙ ap (λ k. joined (from_on t 0 (full + count_of used)) (t k)) (omega arith)) ∙ ap (from_on t 0) (omega arith)))
order_all t p full used false first some =
    all_append t (with_coupling p full (not used) 0 full) []
    ∙ (ap₂ joined (fulls_all t p full used first some) (none_all t) ∙ (joined-none (from_on t 0 (full + count_of used)) ∙ ap (from_on t 0) (omega arith)))

-- ---- the mantissas that are sent
pub first_coupled : (q : Quantised) → is_some q.shape.couple ≡ true → (is_some q.shape.couple && nat_lt 0 (full_of q.shape.acmod)) ≡ true
first_coupled q used = rw (used, lt-ltb 0 (full_of q.shape.acmod) (omega (arith, full_least q.shape))) refl

pub mantissas_cost : (q : Quantised) (b : ℕ) → length (spelled zeros closed (sent_mantissas q b)) ≡ mantissas_in (span_of q.shape.acmod q.shape.bw q.shape.couple) (coded_of q.shape.acmod q.shape.lfe q.shape.couple) (pointer_at q) b
mantissas_cost q b =
    let f : ℕ → ℕ → ℕ = λ c k. pointer_at q c b k in
    let t : ℕ → Tally = λ c. tally_span (f c) (channel_span q.shape c) in
    let p : ℕ → Bool = λ i. is_some q.shape.couple && nat_lt i (full_of q.shape.acmod) in
    whole_cost zeros (sent_mantissas q b)
    ∙ ap exact_of (ap tally_of (pointers_sent q b)
    ∙ (channels_tally (channel_span q.shape) (sent_order q) f
    ∙ (order_all t p (full_of q.shape.acmod) (is_some q.shape.couple) q.shape.lfe (first_coupled q) (full_least q.shape)
    ∙ sym (channels_from (channel_span q.shape) (coded_of q.shape.acmod q.shape.lfe q.shape.couple) f))))
