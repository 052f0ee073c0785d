-- The formula gives the greatest list, which is one.
use Rattle.std.proofs.Common.{◌≡◌, ℕ, suc, zero, ◌+◌, ◌*◌, ◌<◌, ◌≤◌, ◌-◌, min, Bool, true, false, List, [], slice_index, slice_index_or, refl, sym, ap, ◌∙◌, inl, inr, arith, subst}
use Rattle.std.proofs.lemmas.Bool.{cases_eq, cases_lt}
use Rattle.ac_base.specs.declared.spans.Span.{Span}
use Rattle.ac_base.specs.Spans.{IsIn, is_coupling}
use Rattle.ac_expo.specs.Steps.{step_of, last_step}
use Rattle.ac_expo.specs.Least.{distance, least, spread}
use Rattle.ac_expo.specs.Greatest.{IsSpellable, IsUnder, FormulaIsGreatest, GreatestIsOne, GreatestExists, bin_least, step_least, raw_least, capped, step_exponent, exponent_of}
use Rattle.ac_expo.proofs.Walk.{range, IsWalk, walk, origin, span_kind}
use Rattle.ac_expo.proofs.Spread.{least_ge, least_same, near_up, near_down, spread_within}
use Rattle.ac_expo.proofs.Minima.{bin_le, bin_ge, step_le, step_ge, step_small, step_least-same}
use Rattle.std.proofs.lemmas.List.{get_or-take}
use Rattle.std.proofs.Common.{take, map}
use Rattle.std.specs.List.{range_with_len}
use Rattle.std.proofs.lemmas.List.FromFn.{get_or-map-range_with_len}

-- ---- a list that can be spelled changes by at most 2 a step
one_bin : (kind : ℕ) (span : Span) (t : List ℕ) (last : ℕ) → IsWalk (step_of kind span) span.start span.end last → IsSpellable kind span t → (k : ℕ) → span.start ≤ k → k + 1 < span.end → (slice_index t (k + 1) ≤ slice_index t k + 2 * (step_of kind span (k + 1) - step_of kind span k)) × (slice_index t k ≤ slice_index t (k + 1) + 2 * (step_of kind span (k + 1) - step_of kind span k))
one_bin kind span t last w s k from below =
    let up = w.up k from in
    let more = w.more k from in
    elim (cases_eq (step_of kind span (k + 1)) (step_of kind span k)) [
      | inl e ↦ let c = s.constant k (k + 1) (from, omega arith) (omega arith, below) (sym e) in (omega arith, omega arith)
      | inr ne ↦ let n = s.near k (k + 1) (from, omega arith) (omega arith, below) (omega arith) in (omega arith, omega arith)
    ]

bins_on : (kind : ℕ) (span : Span) (t : List ℕ) (last : ℕ) → IsWalk (step_of kind span) span.start span.end last → IsSpellable kind span t → (k n : ℕ) → span.start ≤ k → k + n < span.end → (step_of kind span k ≤ step_of kind span (k + n)) × (slice_index t (k + n) ≤ slice_index t k + 2 * (step_of kind span (k + n) - step_of kind span k)) × (slice_index t k ≤ slice_index t (k + n) + 2 * (step_of kind span (k + n) - step_of kind span k))
bins_on kind span t last w s k zero from below = let e : k + 0 ≡ k = omega arith in rw e (omega arith, omega arith, omega arith)
bins_on kind span t last w s k (suc n) from below =
    let e : k + suc n ≡ k + n + 1 = omega arith in
    let old = bins_on kind span t last w s k n from (omega arith) in
    let now = one_bin kind span t last w s (k + n) (omega arith) (omega arith) in
    let up = w.up (k + n) (omega arith) in
    rw e (omega arith, omega arith, omega arith)

pub bins_apart : (kind : ℕ) (span : Span) (t : List ℕ) (last : ℕ) → IsWalk (step_of kind span) span.start span.end last → IsSpellable kind span t → (j k : ℕ) → IsIn span j → IsIn span k → slice_index t k ≤ slice_index t j + 2 * distance (step_of kind span k) (step_of kind span j)
bins_apart kind span t last w s j k in_j in_k =
    elim (cases_lt j k) [
      | inl l ↦
          let e : j + (k - j) ≡ k = omega arith in
          let P : ℕ → Type 0 = λ x. (step_of kind span j ≤ step_of kind span x) × (slice_index t x ≤ slice_index t j + 2 * (step_of kind span x - step_of kind span j)) × (slice_index t j ≤ slice_index t x + 2 * (step_of kind span x - step_of kind span j)) in
          let r = subst P e (bins_on kind span t last w s j (k - j) in_j.0 (omega arith)) in
          omega arith
      | inr l ↦
          let e : k + (j - k) ≡ j = omega arith in
          let P : ℕ → Type 0 = λ x. (step_of kind span k ≤ step_of kind span x) × (slice_index t x ≤ slice_index t k + 2 * (step_of kind span x - step_of kind span k)) × (slice_index t k ≤ slice_index t x + 2 * (step_of kind span x - step_of kind span k)) in
          let r = subst P e (bins_on kind span t last w s k (j - k) in_k.0 (omega arith)) in
          omega arith
    ]

-- ---- the formula at a step
capped_le : (c : Bool) (g x : ℕ) → capped c g x ≤ x
capped_le true g x = omega arith
capped_le false g x = omega arith

capped_near : (c : Bool) (g x y : ℕ) → x ≤ y + 2 → capped c (g + 1) x ≤ capped c g y + 2
capped_near true g x y h = h
capped_near false g x y h = omega arith

capped_back : (c : Bool) (g x y : ℕ) → x ≤ y + 2 → capped c g x ≤ capped c (g + 1) y + 2
capped_back true g x y h = h
capped_back false g x y h = omega arith

capped_ge : (c : Bool) (g x y : ℕ) → y ≤ x → (c ≡ false → y ≤ 15 + 2 * g) → y ≤ capped c g x
capped_ge true g x y h cap = h
capped_ge false g x y h cap = let l = cap refl in omega arith

pub exponent_near : (kind : ℕ) (span : Span) (raw : List (List ℕ)) (from to g : ℕ) → (step_exponent kind span raw from to (g + 1) ≤ step_exponent kind span raw from to g + 2) × (step_exponent kind span raw from to g ≤ step_exponent kind span raw from to (g + 1) + 2)
unfolding step_exponent
exponent_near kind span raw from to g =
    let last = last_step kind span in
    let r = raw_least kind span raw from to in (
      capped_near (is_coupling span.lead) g (spread last r (g + 1)) (spread last r g) (near_up last r g),
      capped_back (is_coupling span.lead) g (spread last r g) (spread last r (g + 1)) (near_down last r g),
    )

pub exponent_le : (kind : ℕ) (span : Span) (raw : List (List ℕ)) (from to g : ℕ) → g ≤ last_step kind span → step_exponent kind span raw from to g ≤ raw_least kind span raw from to g
unfolding step_exponent
exponent_le kind span raw from to g l =
    let last = last_step kind span in
    let r = raw_least kind span raw from to in
    let c = capped_le (is_coupling span.lead) g (spread last r g) in
    let s = spread_within last r g l in
    omega arith

exponent_first : (kind : ℕ) (span : Span) (raw : List (List ℕ)) (from to : ℕ) → is_coupling span.lead ≡ false → step_exponent kind span raw from to 0 ≤ 15
unfolding step_exponent
exponent_first kind span raw from to free =
    let x = spread (last_step kind span) (raw_least kind span raw from to) 0 in
    subst (λ (c : Bool). capped c 0 x ≤ 15) (sym free) (omega arith)

exponent_ge : (kind : ℕ) (span : Span) (raw : List (List ℕ)) (from to g y : ℕ) → ((h : ℕ) → h ≤ last_step kind span → y ≤ raw_least kind span raw from to h + 2 * distance g h) → (is_coupling span.lead ≡ false → y ≤ 15 + 2 * g) → y ≤ step_exponent kind span raw from to g
unfolding step_exponent
exponent_ge kind span raw from to g y each cap =
    let last = last_step kind span in
    let r = raw_least kind span raw from to in
    capped_ge (is_coupling span.lead) g (spread last r g) y (least_ge last (λ h. r h + 2 * distance g h) y each) cap

-- ---- the formula at a bin is at most its raw exponents
raw_at : (kind : ℕ) (span : Span) (raw : List (List ℕ)) (from to b k : ℕ) → from ≤ b → b < to → IsIn span k → raw_least kind span raw from to (step_of kind span k) ≤ slice_index (slice_index_or raw b []) k
raw_at kind span raw from to b k low high inside =
    let f = bin_least raw from (to - from) in
    let e : span.start + (k - span.start) ≡ k = omega arith in
    let s = step_le kind span f (span.end - span.start) (step_of kind span k) (k - span.start) (omega arith) (ap (step_of kind span) e) in
    let s2 : raw_least kind span raw from to (step_of kind span k) ≤ f k = subst (λ x. raw_least kind span raw from to (step_of kind span k) ≤ f x) e s in
    let e2 : from + (b - from) ≡ b = omega arith in
    let b1 = bin_le raw from (to - from) k (b - from) (omega arith) in
    let b2 : f k ≤ slice_index (slice_index_or raw b []) k = subst (λ x. f k ≤ slice_index (slice_index_or raw x []) k) e2 b1 in
    omega arith

-- ---- no list that can be spelled and is under the raw exponents is above the formula
above_none : (kind : ℕ) (span : Span) (raw : List (List ℕ)) (from to : ℕ) (t : List ℕ) (last : ℕ) → IsWalk (step_of kind span) span.start span.end last → IsSpellable kind span t → IsUnder span raw from to t → (k h : ℕ) → IsIn span k → slice_index t k ≤ raw_least kind span raw from to h + 2 * distance (step_of kind span k) h
above_none kind span raw from to t last w s under k h in_k =
    let d = distance (step_of kind span k) h in
    let f = bin_least raw from (to - from) in
    let x = slice_index t k - 2 * d in
    let small = s.small k in_k in
    let least_ = step_ge kind span f (span.end - span.start) h x (omega arith) (λ i l at.
    let j = span.start + i in
    let in_j : IsIn span j = (omega arith, omega arith) in
    let a = bins_apart kind span t last w s j k in_j in_k in
    let same : distance (step_of kind span k) (step_of kind span j) ≡ d = ap (λ n. distance (step_of kind span k) n) at in
    bin_ge raw from (to - from) j x (omega arith) (λ b m. let u = under (from + b) j (omega arith) (omega arith) in_j in omega arith)) in
    omega arith

pub formula : FormulaIsGreatest
formula kind span raw from to exps is_span is_kind by =
    let w = (walk kind span is_span is_kind).0 in
    let last = last_step kind span in
    let E = step_exponent kind span raw from to in
    let free_start = origin span.lead span.start span.end kind (range span is_span) (span_kind span.lead kind is_kind.0 is_kind.1) in
    record {
      spellable = record {
        small = λ k inside. let e = by k inside in let l = exponent_le kind span raw from to (step_of kind span k) (w.within k inside.0 inside.1) in let s = step_small kind span (bin_least raw from (to - from)) (span.end - span.start) (step_of kind span k) in omega arith;
        constant = λ j k in_j in_k same. by j in_j ∙ ap E same ∙ sym (by k in_k);
        near = λ j k in_j in_k next. let n = exponent_near kind span raw from to (step_of kind span j) in let e = by j in_j in let e2 : slice_index exps k ≡ E (step_of kind span j + 1) = by k in_k ∙ ap E next in (omega arith, omega arith);
        first = λ free. let o = free_start free in let e : slice_index exps 0 ≡ E 0 = by 0 (omega arith, omega arith) ∙ ap E o.2 in let f = exponent_first kind span raw from to free in omega arith;
      };
      under = λ b k low high inside. let e = by k inside in let l = exponent_le kind span raw from to (step_of kind span k) (w.within k inside.0 inside.1) in let r = raw_at kind span raw from to b k low high inside in omega arith;
      most = λ t k s under inside.
          let e = by k inside in
          let g = exponent_ge kind span raw from to (step_of kind span k) (slice_index t k) (λ h l. above_none kind span raw from to t last w s under k h inside) (λ free. let o = free_start free in let a = bins_apart kind span t last w s 0 k (omega arith, omega arith) inside in let c = s.first free in let d : distance (step_of kind span k) (step_of kind span 0) ≡ step_of kind span k = omega arith in omega arith) in
          omega arith;
    }

pub one : GreatestIsOne
one kind span raw from to exps others a b k inside =
    let l = b.most exps k a.spellable a.under inside in
    let m = a.most others k b.spellable b.under inside in
    omega arith

pub exists : GreatestExists
exists kind span raw from to is_span is_kind =
    let exps = map (exponent_of kind span raw from to) (range_with_len 0 span.end) in
    (exps, formula kind span raw from to exps is_span is_kind (λ k inside. get_or-map-range_with_len (exponent_of kind span raw from to) 0 span.end k k 0 inside.1 (omega arith)))

-- ---- the cap at step 0 is the cap at each step
capped_least : (last : ℕ) (r s : ℕ → ℕ) (g : ℕ) → s 0 ≡ min (r 0) 15 → ((h : ℕ) → 0 < h → s h ≡ r h) → spread last s g ≡ min (spread last r g) (15 + 2 * g)
unfolding least
capped_least zero r s g first others = let d : distance g 0 ≡ g = omega arith in omega arith
capped_least (suc n) r s g first others = let old = capped_least n r s g first others in let e = others (suc n) (omega arith) in omega arith

pub spread-capped : (c : Bool) (last : ℕ) (r s : ℕ → ℕ) (g : ℕ) → s 0 ≡ capped c 0 (r 0) → ((h : ℕ) → 0 < h → s h ≡ r h) → spread last s g ≡ capped c g (spread last r g)
spread-capped true last r s g first others = least_same last (λ h. s h + 2 * distance g h) (λ h. r h + 2 * distance g h) (λ h l. let e : s h ≡ r h = elim (cases_eq h 0) [ inl z ↦ ap s z ∙ first ∙ ap r (sym z) | inr p ↦ others h (omega arith) ] in omega arith)
spread-capped false last r s g first others = capped_least last r s g (omega arith) others

-- ---- minima over blocks, minima over steps, the cap and the two passes, put together
spread-same : (last : ℕ) (r s : ℕ → ℕ) (g : ℕ) → ((h : ℕ) → h ≤ last → r h ≡ s h) → spread last r g ≡ spread last s g
spread-same last r s g same = least_same last (λ h. r h + 2 * distance g h) (λ h. s h + 2 * distance g h) (λ h l. let e = same h l in omega arith)

pub composed : (kind : ℕ) (span : Span) (raw : List (List ℕ)) (from to count : ℕ) (bins steps caps smoothed : List ℕ) → count ≡ last_step kind span + 1 → count ≤ 256 → ((k : ℕ) → IsIn span k → slice_index bins k ≡ bin_least raw from (to - from) k) → ((g : ℕ) → g < 256 → slice_index steps g ≡ step_least kind span (slice_index bins) (span.end - span.start) g) → slice_index caps 0 ≡ capped (is_coupling span.lead) 0 (slice_index steps 0) → ((h : ℕ) → 0 < h → slice_index caps h ≡ slice_index steps h) → (g : ℕ) → slice_index smoothed g ≡ spread (count - 1) (slice_index (take count caps)) g → slice_index smoothed g ≡ step_exponent kind span raw from to g
unfolding step_exponent
composed kind span raw from to count bins steps caps smoothed e few of_bins of_steps first others g smooth =
    let last = last_step kind span in
    let less : count - 1 ≡ last = omega arith in
    let c = is_coupling span.lead in
    let r = raw_least kind span raw from to in
    let taken : spread (count - 1) (slice_index (take count caps)) g ≡ spread last (slice_index caps) g =
    ap (λ n. spread n (slice_index (take count caps)) g) less ∙ spread-same last (slice_index (take count caps)) (slice_index caps) g (λ h l. get_or-take count caps h 0 (omega arith)) in
    let by_raw : spread last (slice_index steps) g ≡ spread last r g =
    spread-same last (slice_index steps) r g (λ h l. of_steps h (omega arith) ∙ step_least-same kind span (slice_index bins) (bin_least raw from (to - from)) (span.end - span.start) h (λ i m. of_bins (span.start + i) (omega arith, omega arith))) in
    smooth ∙ taken ∙ spread-capped c last (slice_index steps) (slice_index caps) g first others ∙ ap (capped c g) by_raw
