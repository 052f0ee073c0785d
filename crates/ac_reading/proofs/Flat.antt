-- What the bins of channels have, in a flat list.
use Rattle.std.proofs.Common.{◌≡◌, ℕ, zero, suc, ◌+◌, ◌-◌, ◌<◌, ◌≤◌, List, [], ◌∷◌, ◌++◌, length, slice_index, take, refl, ap, ap₂, sym, ◌∙◌, arith, append_assoc, length-append}
use Rattle.std.specs.Prelude.{map}
use Rattle.std.specs.List.{range_with_len, All}
use Rattle.std.proofs.lemmas.List.{append-nil, map-append, take_more}
use Rattle.std.proofs.lemmas.List.Elements.{All-append, All-nil, All-cons}
use Rattle.std.proofs.lemmas.List.FromFn.{length-map-range_with_len}
use Rattle.ac_base.specs.declared.spans.Span.{Span}
use Rattle.ac_base.specs.Spans.{IsIn}
use Rattle.ac_mant.specs.declared.coded.Coded.{Coded}
use Rattle.ac_mant.specs.Groups.{coded, pairs, pointers}
use Rattle.ac_record.specs.Order.{over_bins, over_channels}

-- ---- bins

bins_from : {A : Type 0} (f : ℕ → A) (a n : ℕ) → List A
bins_from f a n = map f (range_with_len a n)

range_more : (a n : ℕ) → range_with_len a (n + 1) ≡ range_with_len a n ++ (a + n) ∷ []
range_more a zero = ap (λ (x : ℕ). x ∷ []) (omega arith)
range_more a (suc n) =
    let e : (a + 1) + n ≡ a + suc n = omega arith in
    let s : suc n + 1 ≡ suc (n + 1) = omega arith in
    ap (range_with_len a) s ∙ ap (λ (l : List ℕ). a ∷ l) (range_more (a + 1) n ∙ ap (λ (x : ℕ). range_with_len (a + 1) n ++ x ∷ []) e)

pub bins_more : {A : Type 0} (f : ℕ → A) (a n : ℕ) → map f (range_with_len a (n + 1)) ≡ map f (range_with_len a n) ++ f (a + n) ∷ []
bins_more f a n = ap (map f) (range_more a n) ∙ map-append f (range_with_len a n) ((a + n) ∷ [])

pub bins_same : {A : Type 0} (f g : ℕ → A) (a n : ℕ) → ((k : ℕ) → a ≤ k → k < a + n → f k ≡ g k) → map f (range_with_len a n) ≡ map g (range_with_len a n)
bins_same f g a zero h = refl
bins_same {A} f g a (suc n) h = ap₂ (λ (x : A) (xs : List A). x ∷ xs) (h a (omega arith) (omega arith)) (bins_same f g (a + 1) n (λ k le lt. h k (omega arith) (omega arith)))

-- bins that stand from a place on
pub bins_flat : (f : ℕ → ℕ) (a n : ℕ) (flat : List ℕ) (at : ℕ) → at + n ≤ length flat → ((k : ℕ) → a ≤ k → k < a + n → f k ≡ slice_index flat (at + (k - a))) → take at flat ++ map f (range_with_len a n) ≡ take (at + n) flat
bins_flat f a zero flat at room h = append-nil (take at flat) ∙ ap (λ (x : ℕ). take x flat) (omega arith)
bins_flat f a (suc n) flat at room h =
    let before = bins_flat f a n flat at (omega arith) (λ k le lt. h k le (omega arith)) in
    let one : f (a + n) ≡ slice_index flat (at + n) = h (a + n) (omega arith) (omega arith) ∙ ap (slice_index flat) (omega arith) in
    let more = take_more flat (at + n) 0 (omega arith) in
    let next : (at + n) + 1 ≡ at + suc n = omega arith in
    let suc_n : n + 1 ≡ suc n = omega arith in
    ap (λ (x : ℕ). take at flat ++ map f (range_with_len a x)) (sym suc_n)
    ∙ (ap (λ (l : List ℕ). take at flat ++ l) (bins_more f a n)
    ∙ (sym (append_assoc (take at flat) (map f (range_with_len a n)) (f (a + n) ∷ []))
    ∙ (ap₂ (λ (l : List ℕ) (x : ℕ). l ++ x ∷ []) before one
    ∙ (sym more ∙ ap (λ (x : ℕ). take x flat) next))))

span_same : {A : Type 0} (f g : ℕ → A) (span : Span) → ((k : ℕ) → IsIn span k → f k ≡ g k) → over_bins f span ≡ over_bins g span
span_same f g span h = bins_same f g span.start (span.end - span.start) (λ k le lt. h k (le, omega arith))

-- ---- channels

pub channels_more : {A : Type 0} (s : ℕ → Span) (cs : List ℕ) (c : ℕ) (f : ℕ → ℕ → A) → over_channels s (cs ++ c ∷ []) f ≡ over_channels s cs f ++ over_bins (f c) (s c)
unfolding over_channels
channels_more s [] c f = append-nil (over_bins (f c) (s c))
channels_more {A} s (d ∷ cs) c f = ap (λ (l : List A). over_bins (f d) (s d) ++ l) (channels_more s cs c f) ∙ sym (append_assoc (over_bins (f d) (s d)) (over_channels s cs f) (over_bins (f c) (s c)))

pub channels_none : {A : Type 0} (s : ℕ → Span) (f : ℕ → ℕ → A) → over_channels s [] f ≡ []
unfolding over_channels
channels_none s f = refl

pub channels_same : {A : Type 0} (s t : ℕ → Span) (cs : List ℕ) (f g : ℕ → ℕ → A) → ((j : ℕ) → j < length cs → s (slice_index cs j) ≡ t (slice_index cs j))
    → ((j k : ℕ) → j < length cs → IsIn (s (slice_index cs j)) k → f (slice_index cs j) k ≡ g (slice_index cs j) k) → over_channels s cs f ≡ over_channels t cs g
unfolding over_channels
channels_same s t [] f g spans h = refl
channels_same {A} s t (c ∷ cs) f g spans h =
    ap₂ (λ (x y : List A). x ++ y)
    (span_same (f c) (g c) (s c) (λ k i. h 0 k (omega arith) i) ∙ ap (λ (span : Span). over_bins (g c) span) (spans 0 (omega arith)))
    (channels_same s t cs f g (λ j lt. spans (suc j) (omega arith)) (λ j k lt i. h (suc j) k (omega arith) i))

-- one channel more behind those so far
pub channel_more : {A : Type 0} (s : ℕ → Span) (order : List ℕ) (j : ℕ) (f : ℕ → ℕ → A) → j < length order → over_channels s (take (j + 1) order) f ≡ over_channels s (take j order) f ++ over_bins (f (slice_index order j)) (s (slice_index order j))
channel_more s order j f lt = ap (λ (l : List ℕ). over_channels s l f) (take_more order j 0 lt) ∙ channels_more s (take j order) (slice_index order j) f

-- ---- pairs

pairs_bins : (f g : ℕ → ℕ) (a n : ℕ) → pairs (map f (range_with_len a n)) (map g (range_with_len a n)) ≡ map (λ k. coded (f k) (g k)) (range_with_len a n)
pairs_bins f g a zero = refl
pairs_bins f g a (suc n) = ap (λ (l : List Coded). coded (f a) (g a) ∷ l) (pairs_bins f g (a + 1) n)

pairs_append : (p q x y : List ℕ) → length p ≡ length x → pairs (p ++ q) (x ++ y) ≡ pairs p x ++ pairs q y
pairs_append [] q [] y e = refl
pairs_append [] q (b ∷ x) y e = absurd cc
pairs_append (a ∷ p) q [] y e = absurd cc
pairs_append (a ∷ p) q (b ∷ x) y e = ap (λ (l : List Coded). coded a b ∷ l) (pairs_append p q x y (omega (arith, e)))

pub pairs_channels : (s : ℕ → Span) (cs : List ℕ) (f g : ℕ → ℕ → ℕ) → pairs (over_channels s cs f) (over_channels s cs g) ≡ over_channels s cs (λ c k. coded (f c k) (g c k))
unfolding over_channels
pairs_channels s [] f g = refl
pairs_channels s (c ∷ cs) f g =
    let n = (s c).end - (s c).start in
    let long = length-map-range_with_len (f c) (s c).start n ∙ sym (length-map-range_with_len (g c) (s c).start n) in
    pairs_append (over_bins (f c) (s c)) (over_channels s cs f) (over_bins (g c) (s c)) (over_channels s cs g) long
    ∙ ap₂ (λ (x y : List Coded). x ++ y) (pairs_bins (f c) (g c) (s c).start n) (pairs_channels s cs f g)

pub pointers_pairs : (p x : List ℕ) → length x ≡ length p → pointers (pairs p x) ≡ p
pointers_pairs [] [] e = refl
pointers_pairs [] (b ∷ x) e = refl
pointers_pairs (a ∷ p) [] e = absurd cc
pointers_pairs (a ∷ p) (b ∷ x) e = ap (λ (l : List ℕ). a ∷ l) (pointers_pairs p x (omega (arith, e)))

-- ---- all of them

all_bins : (P : ℕ → Type 0) (f : ℕ → ℕ) (a n : ℕ) → ((k : ℕ) → P (f k)) → All P (map f (range_with_len a n))
all_bins P f a zero h = All-nil P
all_bins P f a (suc n) h = All-cons P (f a) (map f (range_with_len (a + 1) n)) (h a) (all_bins P f (a + 1) n h)

pub all_channels : (P : ℕ → Type 0) (s : ℕ → Span) (cs : List ℕ) (f : ℕ → ℕ → ℕ) → ((c k : ℕ) → P (f c k)) → All P (over_channels s cs f)
unfolding over_channels
all_channels P s [] f h = All-nil P
all_channels P s (c ∷ cs) f h = All-append P (over_bins (f c) (s c)) (over_channels s cs f) (all_bins P (f c) (s c).start ((s c).end - (s c).start) (h c)) (all_channels P s cs f h)

pub length-channels : {A B : Type 0} (s : ℕ → Span) (cs : List ℕ) (f : ℕ → ℕ → A) (g : ℕ → ℕ → B) → length (over_channels s cs f) ≡ length (over_channels s cs g)
unfolding over_channels
length-channels s [] f g = refl
length-channels s (c ∷ cs) f g =
    let n = (s c).end - (s c).start in
    length-append (over_bins (f c) (s c)) (over_channels s cs f)
    ∙ (ap₂ (λ (x y : ℕ). x + y) (length-map-range_with_len (f c) (s c).start n ∙ sym (length-map-range_with_len (g c) (s c).start n)) (length-channels s cs f g)
    ∙ sym (length-append (over_bins (g c) (s c)) (over_channels s cs g)))
