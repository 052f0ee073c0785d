-- Lists over the bins of channels in an order.
use Rattle.std.proofs.Common.{◌≡◌, ℕ, zero, suc, ◌+◌, ◌-◌, ◌<◌, ◌≤◌, ◌&&◌, Bool, true, false, List, [], ◌∷◌, ◌++◌, map, refl, ap, ap₂, ◌∙◌, arith}
use Rattle.std.specs.Prelude.{not, if◌then◌else◌}
use Rattle.std.specs.List.{range_with_len}
use Rattle.ac_base.specs.declared.spans.Span.{Span}
use Rattle.ac_base.specs.Shape.{count_of}
use Rattle.ac_base.specs.Spans.{IsIn}
use Rattle.ac_mant.specs.declared.coded.Coded.{Coded}
use Rattle.ac_mant.specs.Groups.{AreCoded, IsCoded, coded, pointers}
use Rattle.ac_record.specs.Order.{with_coupling, order_of, over_bins, over_channels}

-- ---- the bins of a span
map_same : {A : Type 0} (f g : ℕ → A) (from n : ℕ) → ((k : ℕ) → from ≤ k → k < from + n → f k ≡ g k) → map f (range_with_len from n) ≡ map g (range_with_len from n)
map_same f g from zero same = refl
map_same f g from (suc n) same = ap₂ (λ x xs. x ∷ xs) (same from (omega arith) (omega arith)) (map_same f g (from + 1) n (λ k l m. same k (omega arith) (omega arith)))

pub bins_same : {A : Type 0} (f g : ℕ → A) (span : Span) → ((k : ℕ) → IsIn span k → f k ≡ g k) → over_bins f span ≡ over_bins g span
bins_same f g span same = map_same f g span.start (span.end - span.start) (λ k l m. same k (l, omega arith))

-- each number of a list passes
abbrev pub AllOf : (ℕ → Type 0) → List ℕ → Type 0
AllOf P [] = Unit {0}
AllOf P (c ∷ cs) = P c × AllOf P cs

pub all_more : (P Q : ℕ → Type 0) (cs : List ℕ) → ((c : ℕ) → P c → Q c) → AllOf P cs → AllOf Q cs
all_more P Q [] h all = tt
all_more P Q (c ∷ cs) h all = (h c all.0, all_more P Q cs h all.1)

pub all_append : (P : ℕ → Type 0) (cs ds : List ℕ) → AllOf P cs → AllOf P ds → AllOf P (cs ++ ds)
all_append P [] ds h k = k
all_append P (c ∷ cs) ds h k = (h.0, all_append P cs ds h.1 k)

-- ---- two lists that agree on the bins of the channels
pub record Agrees {A : Type 0} (s t : ℕ → Span) (f g : ℕ → ℕ → A) (c : ℕ) : Type 0 where
  pub span : s c ≡ t c
  pub bins : (k : ℕ) → IsIn (t c) k → f c k ≡ g c k

pub channels_same : {A : Type 0} (s t : ℕ → Span) (f g : ℕ → ℕ → A) (cs : List ℕ) → AllOf (Agrees s t f g) cs → over_channels s cs f ≡ over_channels t cs g
unfolding over_channels
channels_same s t f g [] all = refl
channels_same s t f g (c ∷ cs) all = ap₂ (λ x y. x ++ y) (ap (over_bins (f c)) all.0.span ∙ bins_same (f c) (g c) (t c) all.0.bins) (channels_same s t f g cs all.1)

-- ---- mantissas
pointers_append : (xs ys : List Coded) → pointers (xs ++ ys) ≡ pointers xs ++ pointers ys
pointers_append [] ys = refl
pointers_append (x ∷ xs) ys = ap (λ l. x.bap ∷ l) (pointers_append xs ys)

pointers_bins : (f g : ℕ → ℕ) (from n : ℕ) → pointers (map (λ k. coded (f k) (g k)) (range_with_len from n)) ≡ map f (range_with_len from n)
pointers_bins f g from zero = refl
pointers_bins f g from (suc n) = ap (λ l. f from ∷ l) (pointers_bins f g (from + 1) n)

pub pointers_over : (span : ℕ → Span) (cs : List ℕ) (f g : ℕ → ℕ → ℕ) → pointers (over_channels span cs (λ c k. coded (f c k) (g c k))) ≡ over_channels span cs f
unfolding over_channels
pointers_over span [] f g = refl
pointers_over span (c ∷ cs) f g =
    pointers_append (over_bins (λ k. coded (f c k) (g c k)) (span c)) (over_channels span cs (λ c k. coded (f c k) (g c k)))
    ∙ ap₂ (λ x y. x ++ y) (pointers_bins (f c) (g c) (span c).start ((span c).end - (span c).start)) (pointers_over span cs f g)

coded_append : (xs ys : List Coded) → AreCoded xs → AreCoded ys → AreCoded (xs ++ ys)
coded_append [] ys h k = k
coded_append (x ∷ xs) ys h k = (h.0, coded_append xs ys h.1 k)

coded_bins : (f g : ℕ → ℕ) (from n : ℕ) → ((k : ℕ) → from ≤ k → k < from + n → IsCoded (coded (f k) (g k))) → AreCoded (map (λ k. coded (f k) (g k)) (range_with_len from n))
coded_bins f g from zero h = tt
coded_bins f g from (suc n) h = (h from (omega arith) (omega arith), coded_bins f g (from + 1) n (λ k l m. h k (omega arith) (omega arith)))

pub coded_over : (span : ℕ → Span) (cs : List ℕ) (f g : ℕ → ℕ → ℕ) → AllOf (λ c. (k : ℕ) → IsIn (span c) k → IsCoded (coded (f c k) (g c k))) cs → AreCoded (over_channels span cs (λ c k. coded (f c k) (g c k)))
unfolding over_channels
coded_over span [] f g all = tt
coded_over span (c ∷ cs) f g all =
    coded_append (over_bins (λ k. coded (f c k) (g c k)) (span c)) (over_channels span cs (λ c k. coded (f c k) (g c k)))
    (coded_bins (f c) (g c) (span c).start ((span c).end - (span c).start) (λ k l m. all.0 k (l, omega arith)))
    (coded_over span cs f g all.1)

-- ---- the order
-- it depends on the tests of the full channels alone
coupling_same : (p q : ℕ → Bool) (shared : ℕ) (came : Bool) (i n : ℕ) → ((k : ℕ) → i ≤ k → k < i + n → p k ≡ q k) → with_coupling p shared came i n ≡ with_coupling q shared came i n
unfolding with_coupling
coupling_same p q shared came i zero same = refl
coupling_same p q shared came i (suc n) same =
    let here = same i (omega arith) (omega arith) in
    let later = λ (c : Bool). coupling_same p q shared c (suc i) n (λ k l m. same k (omega arith) (omega arith)) in
    let F : Bool → List ℕ → List ℕ → List ℕ = λ b xs ys. if b && not came then i ∷ shared ∷ xs else i ∷ ys in
    ap (λ b. F b (with_coupling p shared true (suc i) n) (with_coupling p shared came (suc i) n)) here
    ∙ ap₂ (F (q i)) (later true) (later came)

pub order_same : (p q : ℕ → Bool) (full : ℕ) (used low : Bool) → ((k : ℕ) → k < full → p k ≡ q k) → order_of p full used low ≡ order_of q full used low
unfolding order_of
order_same p q full used low same = ap (λ l. l ++ (if low then (full + count_of used) ∷ [] else [])) (coupling_same p q full (not used) 0 full (λ k l m. same k (omega arith)))

-- ---- which channels it has: those up to a number, the coupling channel where it is in use, and LFE
choose : (P : ℕ → Type 0) (b : Bool) (xs ys : List ℕ) → (b ≡ true → AllOf P xs) → AllOf P ys → AllOf P (if b then xs else ys)
choose P true xs ys h k = h refl
choose P false xs ys h k = k

not_came : (a came : Bool) → (a && not came) ≡ true → came ≡ false
not_came true false e = refl
not_came true true e = absurd cc
not_came false came e = absurd cc

used_by : (used : Bool) → not used ≡ false → used ≡ true
used_by true e = refl
used_by false e = absurd cc

all_coupling : (P : ℕ → Type 0) (p : ℕ → Bool) (shared : ℕ) (came : Bool) (i n : ℕ) → ((c : ℕ) → i ≤ c → c < i + n → P c) → (came ≡ false → P shared) → AllOf P (with_coupling p shared came i n)
unfolding with_coupling
all_coupling P p shared came i zero full it = tt
all_coupling P p shared came i (suc n) full it =
    choose P (p i && not came) (i ∷ shared ∷ with_coupling p shared true (suc i) n) (i ∷ with_coupling p shared came (suc i) n)
    (λ e. (full i (omega arith) (omega arith), (it (not_came (p i) came e), all_coupling P p shared true (suc i) n (λ c l m. full c (omega arith) (omega arith)) (λ g. absurd cc))))
    (full i (omega arith) (omega arith), all_coupling P p shared came (suc i) n (λ c l m. full c (omega arith) (omega arith)) it)

pub all_order : (P : ℕ → Type 0) (p : ℕ → Bool) (full : ℕ) (used low : Bool) → ((c : ℕ) → c < full → P c) → (used ≡ true → P full) → (low ≡ true → P (full + count_of used)) → AllOf P (order_of p full used low)
unfolding order_of
all_order P p full used low fulls shared last =
    all_append P (with_coupling p full (not used) 0 full) (if low then (full + count_of used) ∷ [] else [])
    (all_coupling P p full (not used) 0 full (λ c l m. fulls c (omega arith)) (λ e. shared (used_by used e)))
    (choose P low ((full + count_of used) ∷ []) [] (λ e. (last e, tt)) tt)
