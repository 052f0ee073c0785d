-- The list of a block's mantissas, piece by piece.
use Rattle.std.proofs.Common.{◌≡◌, ℕ, zero, suc, ◌+◌, ◌-◌, ◌<◌, ◌≤◌, ◌&&◌, Bool, true, false, List, [], ◌∷◌, ◌++◌, append_assoc, take, length, map, slice_index, slice_index_or, slice_set, nat_lt, refl, ap, ap₂, sym, subst, ◌∙◌, arith, inl, inr}
use Rattle.std.specs.Prelude.{is_some, not, if◌then◌else◌}
use Rattle.std.specs.List.{range_with_len}
use Rattle.std.proofs.lemmas.Bool.{lt-ltb, cases_eq}
use Rattle.std.proofs.lemmas.List.{append-nil, take_more_set, get_or-set_same, get_or-set_other}
use Rattle.std.proofs.lemmas.List.FromFn.{map-range_with_len_more}
use Rattle.ac_base.specs.declared.shapes.Shape.{Shape}
use Rattle.ac_base.specs.declared.spans.Span.{Span}
use Rattle.ac_base.specs.Shape.{full_of, count_of}
use Rattle.ac_base.specs.Spans.{IsIn}
use Rattle.ac_expo.specs.Raw.{channel_span, channels}
use Rattle.ac_mant.specs.declared.coded.Coded.{Coded}
use Rattle.ac_mant.specs.Groups.{coded}
use Rattle.ac_record.specs.Order.{with_coupling, order_of, over_bins, over_channels}
use Rattle.ac_record.specs.Readings.{cell}
use Rattle.ac_sent.specs.Values.{Quantised}
use Rattle.ac_sent.specs.Fields.{low_number}
use Rattle.ac_sent.specs.Packed.{sent_mantissas}
use Rattle.ac_sent.proofs.Spans.{full_least}
use Rattle.ac_sent.proofs.Tests.{and_not}
use Rattle.ac_packing.specs.Listing.{ArePointersIn, ArePointers, AreListed, mantissa_at, coupling_of, later_of, low_of}

-- ---- bins
pub bins_none : {A : Type 0} (f : ℕ → A) (list : List A) (at s n : ℕ) → n ≡ 0 → take (at + n) list ≡ take at list ++ map f (range_with_len s n)
bins_none f list at s n e =
    let none : at + n ≡ at = omega (arith, e) in
    ap (λ k. take k list) none ∙ (sym (append-nil (take at list)) ∙ ap (λ k. take at list ++ map f (range_with_len s k)) (sym e))

pub bins_more : {A : Type 0} (f : ℕ → A) (list old : List A) (at s k n m i : ℕ) (x : A) → i ≡ at + n → s + n ≡ k → m ≡ n + 1 → i < length list → x ≡ f k
    → take (at + n) list ≡ old ++ map f (range_with_len s n) → take (at + m) (slice_set list i x) ≡ old ++ map f (range_with_len s m)
bins_more f list old at s k n m i x place here next room value before =
    let more : at + m ≡ i + 1 = omega (arith, place, next) in
    ap (λ j. take j (slice_set list i x)) more
    ∙ (take_more_set list i x room
    ∙ (ap₂ (λ l y. l ++ y ∷ []) (ap (λ j. take j list) place ∙ before) value
    ∙ (append_assoc old (map f (range_with_len s n)) (f k ∷ [])
    ∙ ap (λ l. old ++ l) (sym (map-range_with_len_more f s n k here) ∙ ap (λ j. map f (range_with_len s j)) (sym next)))))

-- ---- channels
same_bins : {A : Type 0} (f g : ℕ → A) (s n : ℕ) → ((k : ℕ) → s ≤ k → k < s + n → f k ≡ g k) → map f (range_with_len s n) ≡ map g (range_with_len s n)
same_bins f g s zero same = refl
same_bins f g s (suc n) same = ap₂ (λ x l. x ∷ l) (same s (omega arith) (omega arith)) (same_bins f g (s + 1) n (λ k l m. same k (omega (arith, l)) (omega (arith, m))))

pub one_channel : {A : Type 0} (span : ℕ → Span) (c : ℕ) (f : ℕ → ℕ → A) → over_channels span (c ∷ []) f ≡ over_bins (f c) (span c)
unfolding over_channels
one_channel span c f = append-nil (over_bins (f c) (span c))

pub no_channels : {A : Type 0} (span : ℕ → Span) (f : ℕ → ℕ → A) → over_channels span [] f ≡ []
unfolding over_channels
no_channels span f = refl

pub more_channels : {A : Type 0} (span : ℕ → Span) (cs ds : List ℕ) (f : ℕ → ℕ → A) → over_channels span (cs ++ ds) f ≡ over_channels span cs f ++ over_channels span ds f
unfolding over_channels
more_channels span [] ds f = refl
more_channels span (c ∷ cs) ds f =
    ap (λ l. over_bins (f c) (span c) ++ l) (more_channels span cs ds f) ∙ sym (append_assoc (over_bins (f c) (span c)) (over_channels span cs f) (over_channels span ds f))

-- what is listed of a channel, by its rows
listed_here : (q : Quantised) (b c : ℕ) (s : Span) (row : List ℕ) → s ≡ channel_span q.shape c → s.start ≤ s.end → ArePointersIn q c b row
    → over_bins (λ k. coded (slice_index row k) (cell q.codes c b k)) s ≡ over_bins (mantissa_at q b c) (channel_span q.shape c)
listed_here q b c s row e order are =
    same_bins (λ k. coded (slice_index row k) (cell q.codes c b k)) (mantissa_at q b c) s.start (s.end - s.start)
    (λ k l m. ap (λ x. coded x (cell q.codes c b k)) (are k (subst (λ (z : Span). IsIn z k) e (l, omega (arith, m, order)))))
    ∙ ap (over_bins (mantissa_at q b c)) e

pub channel_listed : (q : Quantised) (b c at block : ℕ) (s : Span) (baps : List (List (List ℕ))) → at ≡ c → block ≡ b → s ≡ channel_span q.shape c → s.start ≤ s.end → ArePointers q baps → c < channels q.shape → b < 6
    → over_bins (λ k. coded (cell baps at block k) (cell q.codes at block k)) s ≡ over_bins (mantissa_at q b c) (channel_span q.shape c)
channel_listed q b c at block s baps e f same order are lt in_frame =
    ap (λ (i : ℕ). over_bins (λ k. coded (cell baps i block k) (cell q.codes i block k)) s) e
    ∙ (ap (λ (j : ℕ). over_bins (λ k. coded (cell baps c j k) (cell q.codes c j k)) s) f
    ∙ listed_here q b c s (slice_index_or (slice_index_or baps c []) b []) same order (are c lt b in_frame))

map_self : {A : Type 0} (l : List A) → map (λ x. x) l ≡ l
map_self [] = refl
map_self (x ∷ l) = ap (λ m. x ∷ m) (map_self l)

-- one channel more behind others
pub channel_after : {A : Type 0} (span : ℕ → Span) (c n : ℕ) (f : ℕ → ℕ → A) (old : List A) → 1 ≤ c → n ≡ c - 1
    → (old ++ over_channels span (range_with_len 1 n) f) ++ over_bins (f c) (span c) ≡ old ++ over_channels span (range_with_len 1 (c + 1 - 1)) f
channel_after span c n f old some e =
    let here : 1 + n ≡ c = omega (arith, some, e) in
    let next : n + 1 ≡ c + 1 - 1 = omega (arith, some, e) in
    let more : range_with_len 1 n ++ c ∷ [] ≡ range_with_len 1 (c + 1 - 1) =
    sym (ap (λ l. l ++ c ∷ []) (map_self (range_with_len 1 n))) ∙ (sym (map-range_with_len_more (λ k. k) 1 n c here) ∙ (ap (λ k. map (λ j. j) (range_with_len 1 k)) next ∙ map_self (range_with_len 1 (c + 1 - 1)))) in
    append_assoc old (over_channels span (range_with_len 1 n) f) (over_bins (f c) (span c))
    ∙ ap (λ l. old ++ l)
    (ap (λ l. over_channels span (range_with_len 1 n) f ++ l) (sym (one_channel span c f))
    ∙ (sym (more_channels span (range_with_len 1 n) (c ∷ []) f) ∙ ap (λ cs. over_channels span cs f) more))

-- ---- the order
pick : {A : Type 0} (b : Bool) (x y : A) → b ≡ false → (if b then x else y) ≡ y
pick b x y e = rw e refl

came : (p : ℕ → Bool) (shared i n : ℕ) → with_coupling p shared true i n ≡ range_with_len i n
unfolding with_coupling
came p shared i zero = refl
came p shared i (suc n) = pick (p i && false) _ _ (and_not (p i) false refl) ∙ ap (λ l. i ∷ l) (came p shared (suc i) n ∙ ap (λ k. range_with_len k n) (omega arith))

pick_first : {A : Type 0} (b : Bool) (x y : A) → b ≡ true → (if b then x else y) ≡ x
pick_first b x y e = rw e refl

coupling_first : (p : ℕ → Bool) (used : Bool) (n : ℕ) → 1 ≤ n → (used ≡ true → p 0 ≡ true) → with_coupling p n (not used) 0 n ≡ 0 ∷ ((if used then n ∷ [] else []) ++ range_with_len 1 (n - 1))
unfolding with_coupling
coupling_first p used zero some first = absurd (omega arith)
coupling_first p true (suc n) some first =
    pick_first (p 0 && true) _ _ (rw (first refl) refl) ∙ ap (λ l. 0 ∷ suc n ∷ l) (came p (suc n) 1 n ∙ ap (range_with_len 1) (omega arith))
coupling_first p false (suc n) some first = came p (suc n) 0 (suc n) ∙ ap (λ k. 0 ∷ range_with_len 1 k) (omega arith)

order_is : (p : ℕ → Bool) (n : ℕ) (used low : Bool) → 1 ≤ n → (used ≡ true → p 0 ≡ true)
    → order_of p n used low ≡ (0 ∷ []) ++ ((if used then n ∷ [] else []) ++ (range_with_len 1 (n - 1) ++ (if low then (n + count_of used) ∷ [] else [])))
unfolding order_of
order_is p n used low some first =
    let c = if used then n ∷ [] else [] in
    let r = range_with_len 1 (n - 1) in
    let z = if low then (n + count_of used) ∷ [] else [] in
    ap (λ l. l ++ z) (coupling_first p used n some first) ∙ ap (λ l. 0 ∷ l) (append_assoc c r z)

used_first : (used : Bool) (n : ℕ) → 1 ≤ n → used ≡ true → (used && nat_lt 0 n) ≡ true
used_first used n some e = rw (e, lt-ltb 0 n (omega (arith, some))) refl

low_place : (shape : Shape) → full_of shape.acmod + count_of (is_some shape.couple) ≡ low_number shape
low_place shape = omega arith

mantissas_in_order : (q : Quantised) (b : ℕ) → let f = mantissa_at q b in let span = channel_span q.shape in
    sent_mantissas q b ≡ over_channels span ((0 ∷ []) ++ (coupling_of q.shape ++ (later_of q.shape ++ low_of q.shape))) f
mantissas_in_order q b =
    let full = full_of q.shape.acmod in
    let used = is_some q.shape.couple in
    ap (λ cs. over_channels (channel_span q.shape) cs (mantissa_at q b))
    (order_is (λ i. used && nat_lt i full) full used q.shape.lfe (full_least q.shape) (used_first used full (full_least q.shape))
    ∙ ap (λ k. (0 ∷ []) ++ (coupling_of q.shape ++ (later_of q.shape ++ (if q.shape.lfe then k ∷ [] else [])))) (low_place q.shape))

four : {A : Type 0} (a b c d : List A) → ((a ++ b) ++ c) ++ d ≡ a ++ (b ++ (c ++ d))
four a b c d = append_assoc (a ++ b) c d ∙ append_assoc a b (c ++ d)

-- the four pieces are the list
pub all_listed : (q : Quantised) (b : ℕ) (w x y z : List Coded) → w ≡ over_bins (mantissa_at q b 0) (channel_span q.shape 0)
    → x ≡ w ++ over_channels (channel_span q.shape) (coupling_of q.shape) (mantissa_at q b)
    → y ≡ x ++ over_channels (channel_span q.shape) (later_of q.shape) (mantissa_at q b)
    → z ≡ y ++ over_channels (channel_span q.shape) (low_of q.shape) (mantissa_at q b) → z ≡ sent_mantissas q b
all_listed q b w x y z first coupling later low =
    let f = mantissa_at q b in
    let span = channel_span q.shape in
    let over : List ℕ → List Coded = λ cs. over_channels span cs f in
    let c = coupling_of q.shape in
    let r = later_of q.shape in
    let l = low_of q.shape in
    let start = first ∙ sym (one_channel span 0 f) in
    low
    ∙ (ap (λ k. k ++ over l) (later ∙ ap (λ k. k ++ over r) (coupling ∙ ap (λ k. k ++ over c) start))
    ∙ (four (over (0 ∷ [])) (over c) (over r) (over l)
    ∙ (ap (λ k. over (0 ∷ []) ++ (over c ++ k)) (sym (more_channels span r l f))
    ∙ (ap (λ k. over (0 ∷ []) ++ k) (sym (more_channels span c (r ++ l) f))
    ∙ (sym (more_channels span (0 ∷ []) (c ++ (r ++ l)) f)
    ∙ sym (mantissas_in_order q b))))))

-- no channel, and one
pub none_listed : {A : Type 0} (span : ℕ → Span) (f : ℕ → ℕ → A) (old : List A) (cs : List ℕ) → cs ≡ [] → old ≡ old ++ over_channels span cs f
none_listed span f old cs e = sym (ap (λ l. old ++ l) (ap (λ k. over_channels span k f) e ∙ no_channels span f) ∙ append-nil old)

pub one_listed : {A : Type 0} (span : ℕ → Span) (f : ℕ → ℕ → A) (old new : List A) (cs : List ℕ) (at c : ℕ) → at ≡ c → cs ≡ c ∷ [] → new ≡ old ++ over_bins (f at) (span at) → new ≡ old ++ over_channels span cs f
one_listed span f old new cs at c place e before =
    before
    ∙ ap (λ l. old ++ l) (ap (λ (i : ℕ). over_bins (f i) (span i)) place ∙ sym (ap (λ k. over_channels span k f) e ∙ one_channel span c f))

last_by : (n k : ℕ) (low : Bool) → low ≡ true → k ≡ n + count_of low → k - 1 ≡ n + count_of false
last_by n k true e h = omega (arith, h)
last_by n k false e h = absurd cc

pub low_last : (shape : Shape) (k : ℕ) → shape.lfe ≡ true → k ≡ channels shape → k - 1 ≡ low_number shape
low_last shape k e h = last_by (full_of shape.acmod + count_of (is_some shape.couple)) k shape.lfe e h

-- ---- the blocks: a list more behind those that are there
pub listed_more : (q : Quantised) (lists : List (List Coded)) (counts : List ℕ) (at b n : ℕ) (list : List Coded) → at ≡ b → b < length lists → b < length counts → AreListed q b lists counts → take n list ≡ sent_mantissas q b → n ≤ 1792
    → AreListed q (b + 1) (slice_set lists at list) (slice_set counts at n)
listed_more q lists counts at b n list e room place before here few a lt =
    let P : ℕ → ℕ → List Coded → Type 0 = λ i m l. (take m l ≡ sent_mantissas q i) × (m ≤ 1792) in
    subst (λ (i : ℕ). P a (slice_index (slice_set counts i n) a) (slice_index_or (slice_set lists i list) a [])) (sym e)
    (elim (cases_eq a b) [
      | inl same ↦
          subst (λ (i : ℕ). P i (slice_index (slice_set counts b n) i) (slice_index_or (slice_set lists b list) i [])) (sym same)
          (subst (λ (m : ℕ). P b m (slice_index_or (slice_set lists b list) b [])) (sym (get_or-set_same counts b n 0 place))
          (subst (P b n) (sym (get_or-set_same lists b list [] room)) (here, few)))
      | inr ne ↦
          subst (λ (m : ℕ). P a m (slice_index_or (slice_set lists b list) a [])) (sym (get_or-set_other counts b a n 0 ne))
          (subst (P a (slice_index counts a)) (sym (get_or-set_other lists b a list [] ne)) (before a (omega (arith, lt, ne))))
    ])
