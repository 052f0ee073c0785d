-- The bits of the exponents of a block that is sent are those of its parts.
use Rattle.std.proofs.Common.{◌≡◌, ℕ, zero, suc, ◌+◌, ◌*◌, ◌<◌, ◌≤◌, ◌&&◌, Bool, true, false, List, [], ◌∷◌, ◌++◌, length, Option, Some, None, nat_lt, refl, ap, sym, subst, ◌∙◌, inl, inr, arith}
use Rattle.std.specs.Prelude.{is_some, not, if◌then◌else◌}
use Rattle.std.proofs.lemmas.Bool.{cases_lt, lt-ltb, le-ltb, ne_eqb}
use Rattle.std.proofs.lemmas.List.{length-append}
use Rattle.ac_bits.specs.Bits.{bits}
use Rattle.ac_bits.proofs.Laws.{length-bits}
use Rattle.ac_base.specs.declared.spans.Span.{Span}
use Rattle.ac_base.specs.Fit as fit
use Rattle.ac_base.specs.Shape.{full_of, count_of, coded_of, span_of, full_span, next_span, low_span}
use Rattle.ac_base.specs.Sigma.{sum_below}
use Rattle.ac_base.specs.Spans.{groups_of}
use Rattle.ac_expo.specs.Raw.{channel_span}
use Rattle.ac_expo.specs.Spelling.{Spelling}
use Rattle.ac_expo.proofs.Spellings.{groups_long}
use Rattle.ac_codec.specs.Codec.{some_spell}
use Rattle.ac_codec.specs.Lists.{spelled_each}
use Rattle.ac_rows.specs.Bits.{exponent_bits}
use Rattle.ac_rows.specs.BlockRows.{zipped}
use Rattle.ac_rows.specs.Filled.{listed}
use Rattle.ac_rows.specs.Groups.{exponents_of}
use Rattle.ac_rows.specs.Spelled.{spelling_bits}
use Rattle.ac_syntax.specs.Sent.{exponent_rows}
use Rattle.ac_sent.specs.Values.{Quantised}
use Rattle.ac_sent.specs.Fields.{when, sent_fields, code_at, exponents_at, spelling_at, low_number}
use Rattle.ac_sent.proofs.Listed.{listed_more, zipped_listed}
use Rattle.ac_sent.proofs.Spans.{span_full, span_next, span_low, full_most}
use Rattle.ac_sent.proofs.Blocks.{spelling_of_channel}

-- ---- sums
sum_none : (f : ℕ → ℕ) → sum_below 0 f ≡ 0
unfolding sum_below
sum_none f = refl

pub sum_more : (n : ℕ) (f : ℕ → ℕ) → sum_below (suc n) f ≡ sum_below n f + f n
unfolding sum_below
sum_more n f = refl

sum_same : (n : ℕ) (f g : ℕ → ℕ) → ((k : ℕ) → k < n → f k ≡ g k) → sum_below n f ≡ sum_below n g
sum_same zero f g h = sum_none f ∙ sym (sum_none g)
sum_same (suc n) f g h = omega (arith, sum_more n f, sum_more n g, sum_same n f g (λ k l. h k (omega arith)), h n (omega arith))

sum_both : (n : ℕ) (f g : ℕ → ℕ) → sum_below n (λ k. f k + g k) ≡ sum_below n f + sum_below n g
sum_both zero f g = omega (arith, sum_none (λ k. f k + g k), sum_none f, sum_none g)
sum_both (suc n) f g = omega (arith, sum_more n (λ k. f k + g k), sum_more n f, sum_more n g, sum_both n f g)

abbrev cut : ℕ → (ℕ → ℕ) → ℕ → ℕ
cut m f k = if nat_lt k m then f k else 0

-- n terms of which those from m on are 0
sum_cut : (n m : ℕ) (f : ℕ → ℕ) → m ≤ n → sum_below n (cut m f) ≡ sum_below m f
sum_cut zero m f le = let none : m ≡ 0 = omega arith in ap (λ (k : ℕ). sum_below 0 (cut k f)) none ∙ (sum_none (cut 0 f) ∙ sym (ap (λ (k : ℕ). sum_below k f) none ∙ sum_none f))
sum_cut (suc n) m f le = elim (cases_lt n m) [
  | inl all ↦
      let same : m ≡ suc n = omega arith in
      sum_same (suc n) (cut m f) f (λ k l. ap (λ (t : Bool). if t then f k else 0) (lt-ltb k m (omega arith))) ∙ ap (λ (j : ℕ). sum_below j f) (sym same)
  | inr less ↦
      let last = ap (λ (t : Bool). if t then f n else 0) (le-ltb n m less) in
      let rest = sum_cut n m f less in
      omega (arith, sum_more n (cut m f), last, rest)
]

-- ---- the bits of a list of rows
each_more : {A : Type 0} (f : A → List Bool) (xs : List A) (y : A) → length (spelled_each f (xs ++ y ∷ [])) ≡ length (spelled_each f xs) + length (f y)
each_more f [] y = length-append (f y) [] ∙ omega arith
each_more f (x ∷ xs) y =
    let a = length-append (f x) (spelled_each f (xs ++ y ∷ [])) in
    let b = length-append (f x) (spelled_each f xs) in
    let r = each_more f xs y in
    omega (arith, a, b, r)

none_each : {A : Type 0} (f : A → List Bool) (g : ℕ → A) → length (spelled_each f (listed 0 0 g)) ≡ 0
unfolding listed
none_each f g = refl

each_length : {A : Type 0} (f : A → List Bool) (g : ℕ → A) (n : ℕ) → length (spelled_each f (listed n 0 g)) ≡ sum_below n (λ k. length (f (g k)))
each_length f g zero = none_each f g ∙ sym (sum_none (λ k. length (f (g k))))
each_length f g (suc n) =
    ap (λ l. length (spelled_each f l)) (listed_more n g) ∙ (each_more f (listed n 0 g) (g n) ∙ (ap (λ m. m + length (f (g n))) (each_length f g n) ∙ sym (sum_more n (λ k. length (f (g k))))))

sevens : (gs : List ℕ) → length (spelled_each (λ g. bits g 7) gs) ≡ 7 * length gs
sevens [] = refl
sevens (g ∷ gs) = omega (arith, length-append (bits g 7) (spelled_each (λ x. bits x 7) gs), length-bits g 7, sevens gs)

spelling_length : (s : Spelling) → length (spelling_bits s) ≡ 4 + 7 * length s.groups
spelling_length s = omega (arith, length-append (bits s.first 4) (spelled_each (λ g. bits g 7) s.groups), length-bits s.first 4, sevens s.groups)

-- ---- a channel's
channel_spelled : (q : Quantised) (b c : ℕ) → length (spelling_bits (spelling_of_channel q b c)) ≡ 4 + 7 * groups_of (code_at q c b) (channel_span q.shape c)
channel_spelled q b c =
    let span = channel_span q.shape c in
    let n = groups_of (code_at q c b) span in
    omega (arith, spelling_length (spelling_of_channel q b c), groups_long (code_at q c b) span (exponents_at q c b) n)

-- in all what a channel costs
abbrev channel_cost : Quantised → ℕ → ℕ → ℕ
channel_cost q b c = fit.exponent_bits (code_at q c b) (channel_span q.shape c)

-- chbwcod, exponents and gainrng of a full channel
abbrev full_bits : Option (ℕ × ℕ) → Bool → ℕ → ℕ → Spelling → ℕ
full_bits couple here bw code s =
    length (some_spell (λ v. bits v 6) (when (here && not (is_some couple) && nat_lt 0 code) bw))
    + length (exponent_bits (if here then when (nat_lt 0 code) s else None, when (here && nat_lt 0 code) 0))

full_there : (couple : Option (ℕ × ℕ)) (bw code : ℕ) (s : Spelling) → length (spelling_bits s) ≡ 4 + 7 * groups_of code (full_span bw couple) → full_bits couple true bw code s ≡ fit.exponent_bits code (full_span bw couple)
full_there None bw zero s l = refl
full_there (Some p) bw zero s l = refl
full_there None bw (suc m) s l =
    let there = lt-ltb 0 (suc m) (omega arith) in
    let some = ne_eqb (suc m) 0 (omega arith) in
    rw (there, some) (omega (arith, l, length-bits bw 6, length-append (spelling_bits s) (bits 0 2), length-bits 0 2))
full_there (Some p) bw (suc m) s l =
    let there = lt-ltb 0 (suc m) (omega arith) in
    let some = ne_eqb (suc m) 0 (omega arith) in
    rw (there, some) (omega (arith, l, length-append (spelling_bits s) (bits 0 2), length-bits 0 2))

full_cost : (couple : Option (ℕ × ℕ)) (here : Bool) (bw code : ℕ) (s : Spelling) (span : Span) → (here ≡ true → span ≡ full_span bw couple) → length (spelling_bits s) ≡ 4 + 7 * groups_of code span
    → full_bits couple here bw code s ≡ (if here then fit.exponent_bits code span else 0)
full_cost couple false bw code s span e l = refl
full_cost couple true bw code s span e l =
    let same = e refl in
    full_there couple bw code s (subst (λ (z : Span). length (spelling_bits s) ≡ 4 + 7 * groups_of code z) same l) ∙ ap (fit.exponent_bits code) (sym same)

-- the coupling channel's
shared_there : (code : ℕ) (s : Spelling) (p : ℕ × ℕ) → length (spelling_bits s) ≡ 4 + 7 * groups_of code (next_span (Some p)) → length (some_spell spelling_bits (when (nat_lt 0 code) s)) ≡ fit.exponent_bits code (next_span (Some p))
shared_there zero s p l = refl
shared_there (suc m) s p l =
    let there = lt-ltb 0 (suc m) (omega arith) in
    let some = ne_eqb (suc m) 0 (omega arith) in
    rw (there, some) (omega (arith, l))

shared_cost : (couple : Option (ℕ × ℕ)) (code : ℕ) (s : Spelling) (span : Span) → span ≡ next_span couple → length (spelling_bits s) ≡ 4 + 7 * groups_of code span
    → length (some_spell spelling_bits (if is_some couple then when (nat_lt 0 code) s else None)) ≡ (if is_some couple then fit.exponent_bits code span else 0)
shared_cost None code s span e l = refl
shared_cost (Some p) code s span e l =
    shared_there code s p (subst (λ (z : Span). length (spelling_bits s) ≡ 4 + 7 * groups_of code z) e l) ∙ ap (fit.exponent_bits code) (sym e)

-- LFE's
low_there : (code : ℕ) (s : Spelling) → length (spelling_bits s) ≡ 4 + 7 * groups_of code low_span → length (some_spell spelling_bits (when (nat_lt 0 code) s)) ≡ fit.exponent_bits code low_span
low_there zero s l = refl
low_there (suc m) s l =
    let there = lt-ltb 0 (suc m) (omega arith) in
    let some = ne_eqb (suc m) 0 (omega arith) in
    rw (there, some) (omega (arith, l))

low_cost : (low : Bool) (code : ℕ) (s : Spelling) (span : Span) → span ≡ low_span → length (spelling_bits s) ≡ 4 + 7 * groups_of code span
    → length (some_spell spelling_bits (if low then when (nat_lt 0 code) s else None)) ≡ (if low then fit.exponent_bits code span else 0)
low_cost false code s span e l = refl
low_cost true code s span e l =
    low_there code s (subst (λ (z : Span). length (spelling_bits s) ≡ 4 + 7 * groups_of code z) e l) ∙ ap (fit.exponent_bits code) (sym e)

-- ---- all channels of a block
-- the coded ones: the full ones, the coupling channel, and LFE
coded_sum : (full : ℕ) (used low : Bool) (f : ℕ → ℕ) → sum_below (full + count_of used + count_of low) f ≡ sum_below full f + (if used then f full else 0) + (if low then f (full + count_of used + count_of false) else 0)
coded_sum full true true f =
    let a : full + 1 + 1 ≡ suc (suc full) = omega arith in
    let b : full + 1 + 0 ≡ suc full = omega arith in
    ap (λ k. sum_below k f) a ∙ omega (arith, sum_more (suc full) f, sum_more full f, ap f b)
coded_sum full true false f =
    let a : full + 1 + 0 ≡ suc full = omega arith in
    ap (λ k. sum_below k f) a ∙ omega (arith, sum_more full f)
coded_sum full false true f =
    let a : full + 0 + 1 ≡ suc full = omega arith in
    let b : full + 0 + 0 ≡ full = omega arith in
    ap (λ k. sum_below k f) a ∙ omega (arith, sum_more full f, ap f b)
coded_sum full false false f =
    let a : full + 0 + 0 ≡ full = omega arith in
    ap (λ k. sum_below k f) a ∙ omega arith

fulls_cost : (q : Quantised) (b : ℕ) → length (spelled_each (some_spell (λ v. bits v 6)) (listed 5 0 (λ i. when (nat_lt i (full_of q.shape.acmod) && not (is_some q.shape.couple) && nat_lt 0 (code_at q i b)) q.shape.bw)))
    + length (spelled_each exponent_bits (zipped (listed 5 0 (λ i. if nat_lt i (full_of q.shape.acmod) then spelling_at q i b else None)) (listed 5 0 (λ i. when (nat_lt i (full_of q.shape.acmod) && nat_lt 0 (code_at q i b)) 0))))
    ≡ sum_below (full_of q.shape.acmod) (channel_cost q b)
fulls_cost q b =
    let full = full_of q.shape.acmod in
    let w : ℕ → Option ℕ = λ i. when (nat_lt i full && not (is_some q.shape.couple) && nat_lt 0 (code_at q i b)) q.shape.bw in
    let x : ℕ → Option Spelling = λ i. if nat_lt i full then spelling_at q i b else None in
    let g : ℕ → Option ℕ = λ i. when (nat_lt i full && nat_lt 0 (code_at q i b)) 0 in
    let a = each_length (some_spell (λ v. bits v 6)) w 5 in
    let z = ap (λ l. length (spelled_each exponent_bits l)) (zipped_listed 5 0 x g) ∙ each_length exponent_bits (λ k. (x k, g k)) 5 in
    let one : (k : ℕ) → k < 5 → length (some_spell (λ v. bits v 6) (w k)) + length (exponent_bits (x k, g k)) ≡ cut full (channel_cost q b) k = λ k l.
    full_cost q.shape.couple (nat_lt k full) q.shape.bw (code_at q k b) (spelling_of_channel q b k) (channel_span q.shape k) (λ here. span_full q.shape k here) (channel_spelled q b k) in
    let both = sum_both 5 (λ k. length (some_spell (λ v. bits v 6) (w k))) (λ k. length (exponent_bits (x k, g k))) in
    let all = sum_same 5 (λ k. length (some_spell (λ v. bits v 6) (w k)) + length (exponent_bits (x k, g k))) (cut full (channel_cost q b)) one in
    omega (arith, a, z, both, all, sum_cut 5 full (channel_cost q b) (full_most q.shape))

pub exponents_cost : (q : Quantised) (first : Bool) (b : ℕ) (skipl : Option ℕ)
    → exponent_rows (sent_fields q first b skipl) ≡ fit.exponents_in (span_of q.shape.acmod q.shape.bw q.shape.couple) (coded_of q.shape.acmod q.shape.lfe q.shape.couple) q.assign.w b
unfolding sent_fields
exponents_cost q first b skipl =
    let full = full_of q.shape.acmod in
    let last = low_number q.shape in
    let d = sent_fields q first b skipl in
    let x = exponents_of d in
    let fulls = fulls_cost q b in
    let shared = shared_cost q.shape.couple (code_at q full b) (spelling_of_channel q b full) (channel_span q.shape full) (span_next q.shape) (channel_spelled q b full) in
    let low = low_cost q.shape.lfe (code_at q last b) (spelling_of_channel q b last) (channel_span q.shape last) (span_low q.shape) (channel_spelled q b last) in
    let l1 = length-append (some_spell spelling_bits x.cplabsexp) (spelled_each exponent_bits (zipped x.exps x.gainrng) ++ some_spell spelling_bits x.lfeexps) in
    let l2 = length-append (spelled_each exponent_bits (zipped x.exps x.gainrng)) (some_spell spelling_bits x.lfeexps) in
    let all = coded_sum full (is_some q.shape.couple) q.shape.lfe (channel_cost q b) in
    omega (arith, l1, l2, fulls, shared, low, all)
