-- Steps of one kind by those of the kind before, and by bins.
use Rattle.std.proofs.Common.{◌≡◌, ℕ, zero, suc, ◌+◌, ◌*◌, ◌/◌, ◌<◌, ◌≤◌, ◌-◌, ◌⊎◌, min, max, Bool, List, [], length, slice_index, slice_index_or, refl, sym, ap, ap₂, ◌∙◌, inl, inr, arith, subst}
use Rattle.std.proofs.lemmas.Bool.{cases_eq, cases_lt}
use Rattle.std.proofs.lemmas.List.{get_or_past}
use Rattle.ac_base.specs.declared.spans.Lead.{Lead}
use Rattle.ac_base.specs.declared.spans.Lead.TheVariants.{Free, Coupled, Coupling, Low}
use Rattle.ac_base.specs.declared.spans.Span.{Span}
use Rattle.ac_base.specs.Shape.{IsSpan, IsSpanOf}
use Rattle.ac_base.proofs.SpanBounds.{span_some, span_end}
use Rattle.ac_base.specs.Spans.{IsKind, greatest_kind, is_coupling}
use Rattle.ac_base.specs.Spans.{width, groups_of}
use Rattle.ac_expo.specs.Steps.{ahead, step_of, last_step}
use Rattle.ac_expo.specs.Greatest.{bin_least, step_least, raw_least, capped, step_exponent}
use Rattle.ac_expo.proofs.Minima.{bin_none, bin_more, bin_small, step_none, step_same, step_other, step_small, step_le, step_ge}
use Rattle.ac_expo.proofs.Walk.{IsOneOf, walk, span_kind}
use Rattle.ac_expo.proofs.Formula.{spread-capped}
use Rattle.ac_levels.specs.Rows.{level_of, AreLevels}
use Rattle.ac_levels.specs.Reach.{AreSteps, AreBlockSteps, ArePairs, IsZeroOutside, IsSpread}
use Rattle.ac_levels.proofs.Filling.{level_of_two}
use Rattle.ac_levels.proofs.Reaching.{spread_all}

-- ---- the step of a bin
ahead_pair : (lead : Lead) (x : ℕ) → (((x + ahead 2 lead) / 2) ≡ (x + ahead 1 lead + 1) / 2) × (((x + ahead 3 lead) / 4) ≡ ((x + ahead 2 lead) / 2 + 1) / 2) × ((x + ahead 1 lead) / 1 ≡ x + ahead 1 lead)
ahead_pair Free x = (omega arith, omega arith, omega arith)
ahead_pair Coupled x = (omega arith, omega arith, omega arith)
ahead_pair Coupling x = (omega arith, omega arith, omega arith)
ahead_pair Low x = (omega arith, omega arith, omega arith)

-- in kind 1 each bin is a step
pub step_one : (span : Span) (k : ℕ) → step_of 1 span k ≡ k - span.start + ahead 1 span.lead
unfolding step_of
step_one span k = (ahead_pair span.lead (k - span.start)).2

step_two : (span : Span) (k : ℕ) → step_of 2 span k ≡ (step_of 1 span k + 1) / 2
unfolding step_of
step_two span k = let a = ahead_pair span.lead (k - span.start) in omega arith

step_three : (span : Span) (k : ℕ) → step_of 3 span k ≡ (step_of 2 span k + 1) / 2
unfolding step_of
step_three span k = (ahead_pair span.lead (k - span.start)).1

-- a step of the next kind has two steps
pub step_next : (kind : ℕ) (span : Span) (k : ℕ) → 1 ≤ kind → kind ≤ 2 → step_of (kind + 1) span k ≡ (step_of kind span k + 1) / 2
step_next kind span k some most =
    let P : ℕ → Type 0 = λ n. step_of (n + 1) span k ≡ (step_of n span k + 1) / 2 in
    elim (cases_eq kind 1) [
      | inl e ↦ subst P (sym e) (step_two span k)
      | inr ne ↦ let e : kind ≡ 2 = omega arith in subst P (sym e) (step_three span k)
    ]

-- a step by the step of kind 1
pub step_wide : (kind : ℕ) (span : Span) (k : ℕ) → 1 ≤ kind → kind ≤ 3 → step_of kind span k ≡ (step_of 1 span k + (width kind - 1)) / width kind
step_wide kind span k some most =
    let P : ℕ → Type 0 = λ n. step_of n span k ≡ (step_of 1 span k + (width n - 1)) / width n in
    let two = step_two span k in
    let three = step_three span k in
    elim (cases_eq kind 1) [
      | inl e ↦ subst P (sym e) (omega arith)
      | inr ne ↦ elim (cases_eq kind 2) [ inl e ↦ subst P (sym e) (omega arith) | inr ne2 ↦ let e : kind ≡ 3 = omega arith in subst P (sym e) (omega arith) ]
    ]

-- ---- the least of a step
pub least_none : (kind : ℕ) (span : Span) (f : ℕ → ℕ) (n g : ℕ) → ((i : ℕ) → i < n → step_of kind span (span.start + i) ≡ g → ⊥) → step_least kind span f n g ≡ 24
least_none kind span f n g none =
    let s = step_small kind span f n g in
    let l = step_ge kind span f n g 24 (omega arith) (λ i h e. absurd (none i h e)) in
    omega arith

least_one : (kind : ℕ) (span : Span) (f : ℕ → ℕ) (n g i : ℕ) → i < n → f (span.start + i) ≤ 24 → step_of kind span (span.start + i) ≡ g → ((j : ℕ) → j < n → step_of kind span (span.start + j) ≡ g → j ≡ i) → step_least kind span f n g ≡ f (span.start + i)
least_one kind span f n g i below small at alone =
    let l = step_le kind span f n g i below at in
    let m = step_ge kind span f n g (f (span.start + i)) small (λ j h e. let same = alone j h e in subst (λ x. f (span.start + i) ≤ f (span.start + x)) (sym same) (omega arith)) in
    omega arith

least_first : (kind next : ℕ) (span : Span) (f : ℕ → ℕ) (n : ℕ) → ((k : ℕ) → step_of next span k ≡ (step_of kind span k + 1) / 2) → step_least next span f n 0 ≡ step_least kind span f n 0
least_first kind next span f zero pair = step_none next span f 0 0 refl ∙ sym (step_none kind span f 0 0 refl)
least_first kind next span f (suc n) pair =
    let old = least_first kind next span f n pair in
    let at = pair (span.start + n) in
    elim (cases_eq (step_of kind span (span.start + n)) 0) [
      | inl e ↦ omega (arith, step_same kind span f n 0 e, step_same next span f n 0 (omega arith))
      | inr ne ↦ omega (arith, step_other kind span f n 0 ne, step_other next span f n 0 (λ e. absurd (omega arith)))
    ]

least_pair : (kind next : ℕ) (span : Span) (f : ℕ → ℕ) (n g : ℕ) → 0 < g → ((k : ℕ) → step_of next span k ≡ (step_of kind span k + 1) / 2) → step_least next span f n g ≡ min (step_least kind span f n (2 * g - 1)) (step_least kind span f n (2 * g))
least_pair kind next span f zero g some pair = omega (arith, step_none next span f 0 g refl, step_none kind span f 0 (2 * g - 1) refl, step_none kind span f 0 (2 * g) refl)
least_pair kind next span f (suc n) g some pair =
    let old = least_pair kind next span f n g some pair in
    let at = pair (span.start + n) in
    elim (cases_eq (step_of kind span (span.start + n)) (2 * g - 1)) [
      | inl e ↦ omega (arith, step_same kind span f n (2 * g - 1) e, step_other kind span f n (2 * g) (λ x. absurd (omega arith)), step_same next span f n g (omega arith))
      | inr ne ↦
          elim (cases_eq (step_of kind span (span.start + n)) (2 * g)) [
            | inl e ↦ omega (arith, step_other kind span f n (2 * g - 1) ne, step_same kind span f n (2 * g) e, step_same next span f n g (omega arith))
            | inr ne2 ↦ omega (arith, step_other kind span f n (2 * g - 1) ne, step_other kind span f n (2 * g) ne2, step_other next span f n g (λ x. absurd (omega arith)))
          ]
    ]

-- past the last step there is no bin
pub past_last : (kind : ℕ) (span : Span) (raw : List (List ℕ)) (from to g : ℕ) → IsSpan span → IsKind kind span → last_step kind span < g → raw_least kind span raw from to g ≡ 24
past_last kind span raw from to g is_span is_kind past =
    let w = (walk kind span is_span is_kind).0 in
    let some = span_some span is_span in
    least_none kind span (bin_least raw from (to - from)) (span.end - span.start) g (λ i h e. let l = w.within (span.start + i) (omega arith) (omega arith) in absurd (omega arith))

pub last_small : (kind : ℕ) (span : Span) → IsSpan span → IsKind kind span → last_step kind span ≤ 252
last_small kind span is_span is_kind = (walk kind span is_span is_kind).1

-- ---- the next kind's steps are pairs
pub next_steps : (kind block n : ℕ) (span : Span) (raw : List (List ℕ)) (old new : List ℕ) → IsSpan span → 1 ≤ kind → kind ≤ 2 → IsKind (kind + 1) span → last_step (kind + 1) span < n → n ≤ 129 → AreSteps kind span raw block old → ArePairs n old new → AreSteps (kind + 1) span raw block new
next_steps kind block n span raw old new is_span low most is_kind whole bound s p =
    let pair : (k : ℕ) → step_of (kind + 1) span k ≡ (step_of kind span k + 1) / 2 = λ k. step_next kind span k low most in
    let f = bin_least raw block (block + 1 - block) in
    let bins = span.end - span.start in
    let R = raw_least kind span raw block (block + 1) in
    let Q = raw_least (kind + 1) span raw block (block + 1) in
    let two : (g : ℕ) → 0 < g → Q g ≡ min (R (2 * g - 1)) (R (2 * g)) = λ g some. least_pair kind (kind + 1) span f bins g some pair in
    let first : Q 0 ≡ R 0 = least_first kind (kind + 1) span f bins pair in
    record {
      first = p.first ∙ s.first ∙ ap (λ x. level_of (capped (is_coupling span.lead) 0 x)) (sym first);
      later = λ g some below.
          elim (cases_lt g n) [
            | inl inside ↦
                let at : 16 + (2 * g - 1) ≡ 15 + 2 * g = omega arith in
                let a : slice_index old (15 + 2 * g) ≡ level_of (R (2 * g - 1)) = ap (slice_index old) (sym at) ∙ s.later (2 * g - 1) (omega arith) (omega arith) in
                let b : slice_index old (16 + 2 * g) ≡ level_of (R (2 * g)) = s.later (2 * g) (omega arith) (omega arith) in
                p.later g some inside ∙ ap₂ max a b ∙ sym (level_of_two (Q g) (R (2 * g - 1)) (R (2 * g)) (two g some))
            | inr outside ↦ p.behind (16 + g) (omega arith) ∙ ap level_of (sym (past_last (kind + 1) span raw block (block + 1) g is_span is_kind (omega arith)))
          ];
      before = p.before;
    }

-- ---- the steps of kind 1 are the bins
block_bin : (raw : List (List ℕ)) (block k : ℕ) → level_of (bin_least raw block (block + 1 - block) k) ≡ level_of (slice_index (slice_index_or raw block []) k)
block_bin raw block k =
    let none = bin_none raw block 0 k refl in
    let more = bin_more raw block 0 (block + 1 - block) block k (omega arith) (omega arith) in
    omega arith

ahead_one : (lead : Lead) → ahead 1 lead ≤ 1
ahead_one Free = omega arith
ahead_one Coupled = omega arith
ahead_one Coupling = omega arith
ahead_one Low = omega arith

placed_steps : (span : Span) (raw : List (List ℕ)) (block : ℕ) (places : List ℕ) → IsSpan span
    → ((i : ℕ) → span.start + i < span.end → slice_index places (16 + ahead 1 span.lead + i) ≡ level_of (slice_index (slice_index_or raw block []) (span.start + i)))
    → ((p : ℕ) → ((p < 16 + ahead 1 span.lead) ⊎ (16 + ahead 1 span.lead + (span.end - span.start) ≤ p)) → slice_index places p ≡ 0)
    → (g : ℕ) → slice_index places (16 + g) ≡ level_of (raw_least 1 span raw block (block + 1) g)
placed_steps span raw block places is_span inside outside g =
    let some = span_some span is_span in
    let a = ahead 1 span.lead in
    let f = bin_least raw block (block + 1 - block) in
    let n = span.end - span.start in
    let step : (i : ℕ) → step_of 1 span (span.start + i) ≡ i + a = λ i. let e = step_one span (span.start + i) in omega arith in
    elim (cases_lt g a) [
      | inl low ↦ let z = outside (16 + g) (inl (omega arith)) in let l = least_none 1 span f n g (λ i h e. let s = step i in absurd (omega arith)) in omega arith
      | inr from ↦
          elim (cases_lt g (a + n)) [
            | inr high ↦ let z = outside (16 + g) (inr (omega arith)) in let l = least_none 1 span f n g (λ i h e. let s = step i in absurd (omega arith)) in omega arith
            | inl below ↦
                let i = g - a in
                let s = step i in
                let l = least_one 1 span f n g i (omega arith) (bin_small raw block (block + 1 - block) (span.start + i)) (omega arith) (λ j h e. let t = step j in omega arith) in
                let at : 16 + a + i ≡ 16 + g = omega arith in
                ap (slice_index places) (sym at) ∙ inside i (omega arith) ∙ sym (block_bin raw block (span.start + i)) ∙ ap level_of (sym l)
          ]
    ]

pub first_steps : (span : Span) (raw : List (List ℕ)) (block : ℕ) (places caps : List ℕ) → IsSpan span
    → ((i : ℕ) → span.start + i < span.end → slice_index places (16 + ahead 1 span.lead + i) ≡ level_of (slice_index (slice_index_or raw block []) (span.start + i)))
    → ((p : ℕ) → ((p < 16 + ahead 1 span.lead) ⊎ (16 + ahead 1 span.lead + (span.end - span.start) ≤ p)) → slice_index places p ≡ 0)
    → ((exponent : ℕ) → slice_index places 16 ≡ level_of exponent → slice_index caps 16 ≡ level_of (capped (is_coupling span.lead) 0 exponent))
    → ((p : ℕ) → (p ≡ 16 → ⊥) → slice_index caps p ≡ slice_index places p)
    → AreSteps 1 span raw block caps
first_steps span raw block places caps is_span inside outside first others =
    let each = placed_steps span raw block places is_span inside outside in
    record {
      first = first (raw_least 1 span raw block (block + 1) 0) (each 0);
      later = λ g some below. others (16 + g) (λ e. absurd (omega arith)) ∙ each g;
      before = λ p h. others p (λ e. absurd (omega arith)) ∙ outside p (inl (omega arith));
    }

-- ---- spread steps are the exponents of a run of one block
caps_of : Bool → (ℕ → ℕ) → ℕ → ℕ
caps_of c r zero = capped c 0 (r 0)
caps_of c r (suc h) = r (suc h)

caps_later : (c : Bool) (r : ℕ → ℕ) (h : ℕ) → 0 < h → caps_of c r h ≡ r h
unfolding caps_of
caps_later c r zero some = absurd (omega arith)
caps_later c r (suc h) some = refl

caps_first : (c : Bool) (r : ℕ → ℕ) → caps_of c r 0 ≡ capped c 0 (r 0)
unfolding caps_of
caps_first c r = refl

pub steps_outside : (kind block n : ℕ) (span : Span) (raw : List (List ℕ)) (places : List ℕ) → IsSpan span → IsKind kind span → last_step kind span < n → n ≤ 256 → ((p : ℕ) → 288 ≤ p → slice_index places p ≡ 0) → AreSteps kind span raw block places → IsZeroOutside n places
steps_outside kind block n span raw places is_span is_kind whole bound past s p out =
    elim (cases_lt p 16) [
      | inl low ↦ s.before p low
      | inr from ↦
          elim (cases_lt p 288) [
            | inr far ↦ past p far
            | inl near ↦
                let behind : 16 + n ≤ p = elim (cases_lt p (16 + n)) [ inl h ↦ absurd (out (from, h)) | inr h ↦ h ] in
                let at : 16 + (p - 16) ≡ p = omega arith in
                let l = past_last kind span raw block (block + 1) (p - 16) is_span is_kind (omega arith) in
                ap (slice_index places) (sym at) ∙ s.later (p - 16) (omega arith) (omega arith) ∙ ap level_of l
          ]
    ]

pub spread_steps : (kind block n g : ℕ) (span : Span) (raw : List (List ℕ)) (places done : List ℕ) → IsSpan span → IsKind kind span → last_step kind span < n → n ≤ 256 → g ≤ last_step kind span → AreSteps kind span raw block places → IsSpread 11 n places done → slice_index done (16 + g) ≡ level_of (step_exponent kind span raw block (block + 1) g)
unfolding step_exponent
spread_steps kind block n g span raw places done is_span is_kind whole bound inside s d =
    let c = is_coupling span.lead in
    let r = raw_least kind span raw block (block + 1) in
    let last = last_step kind span in
    let caps = caps_of c r in
    let levels : (h : ℕ) → h < n → slice_index places (16 + h) ≡ level_of (caps h) = λ h below.
    elim (cases_eq h 0) [
      | inl e ↦ let at : 16 + h ≡ 16 = omega arith in ap (slice_index places) at ∙ s.first ∙ ap level_of (sym (caps_first c r) ∙ ap caps (sym e))
      | inr ne ↦ s.later h (omega arith) (omega arith) ∙ ap level_of (sym (caps_later c r h (omega arith)))
    ] in
    let none : (h : ℕ) → last < h → h < n → 24 ≤ caps h = λ h past below. (let l = past_last kind span raw block (block + 1) h is_span is_kind past in let e = caps_later c r h (omega arith) in omega arith) in
    spread_all n last g places done caps whole inside levels none d ∙ ap level_of (spread-capped c last r caps g (caps_first c r) (caps_later c r))

-- ---- how many places there are
pub kind_three : (lead : Lead) (kind : ℕ) → kind ≤ greatest_kind lead → kind ≤ 3
kind_three Free kind h = h
kind_three Coupled kind h = h
kind_three Coupling kind h = h
kind_three Low kind h = omega arith

pub few_places : (kind n : ℕ) → 1 ≤ kind → kind ≤ 3 → n * width kind ≤ 256 → (n ≤ 256) × (2 ≤ kind → n ≤ 128)
few_places kind n low high bound =
    let P : ℕ → Type 0 = λ x. n * width x ≤ 256 → (n ≤ 256) × (2 ≤ x → n ≤ 128) in
    elim (cases_eq kind 1) [
      | inl e ↦ subst P (sym e) (λ b. (omega arith, λ two. absurd (omega arith))) bound
      | inr ne ↦
          elim (cases_eq kind 2) [
            | inl e ↦ subst P (sym e) (λ b. (omega arith, λ two. omega arith)) bound
            | inr ne2 ↦ let e : kind ≡ 3 = omega arith in subst P (sym e) (λ b. (omega arith, λ two. omega arith)) bound
          ]
    ]

abbrev Fits : Lead → ℕ → ℕ → ℕ → Type 0
Fits lead start end kind = (last_step kind (record { start = start; end = end; lead = lead }) + 16) / 16 * 16 * width kind ≤ 256

fits : (lead : Lead) (start end kind : ℕ) → IsSpanOf lead start end → IsOneOf kind → kind ≤ greatest_kind lead → Fits lead start end kind
unfolding groups_of
fits Free start end kind s one most =
    let P : ℕ → Type 0 = Fits Free start end in
    elim one [ inl e ↦ subst P (sym e) (omega arith) | inr more ↦ elim more [ inl e ↦ subst P (sym e) (omega arith) | inr e ↦ subst P (sym e) (omega arith) ] ]
fits Coupled start end kind s one most =
    let P : ℕ → Type 0 = Fits Coupled start end in
    elim one [ inl e ↦ subst P (sym e) (omega arith) | inr more ↦ elim more [ inl e ↦ subst P (sym e) (omega arith) | inr e ↦ subst P (sym e) (omega arith) ] ]
fits Coupling start end kind s one most =
    let P : ℕ → Type 0 = Fits Coupling start end in
    elim one [ inl e ↦ subst P (sym e) (omega arith) | inr more ↦ elim more [ inl e ↦ subst P (sym e) (omega arith) | inr e ↦ subst P (sym e) (omega arith) ] ]
fits Low start end kind s one most =
    let e : kind ≡ 1 = elim one [ inl e ↦ e | inr more ↦ elim more [ inl e ↦ absurd (omega arith) | inr e ↦ absurd (omega arith) ] ] in
    let P : ℕ → Type 0 = Fits Low start end in
    subst P (sym e) (omega arith)

pub window_fits : (kind : ℕ) (span : Span) → IsSpan span → IsKind kind span → (last_step kind span + 16) / 16 * 16 * width kind ≤ 256
window_fits kind span is_span is_kind = fits span.lead span.start span.end kind is_span (span_kind span.lead kind is_kind.0 is_kind.1) is_kind.1

-- ---- what the code has, by the numbers that it has
pub first_steps_of : (span : Span) (raw : List (List ℕ)) (block b start end at : ℕ) (places caps : List ℕ) → IsSpan span → b ≡ block → start ≡ span.start → end ≡ span.end → at ≡ 16 + ahead 1 span.lead
    → ((i : ℕ) → start + i < end → slice_index places (at + i) ≡ level_of (slice_index (slice_index_or raw b []) (start + i)))
    → ((p : ℕ) → ((p < at) ⊎ (at + (end - start) ≤ p)) → slice_index places p ≡ 0)
    → ((exponent : ℕ) → slice_index places 16 ≡ level_of exponent → slice_index caps 16 ≡ level_of (capped (is_coupling span.lead) 0 exponent))
    → ((p : ℕ) → (p ≡ 16 → ⊥) → slice_index caps p ≡ slice_index places p)
    → AreSteps 1 span raw block caps
first_steps_of span raw block b start end at places caps is_span same from to place inside outside first others =
    let row : ℕ → ℕ → ℕ = λ x k. level_of (slice_index (slice_index_or raw x []) k) in
    first_steps span raw block places caps is_span
    (λ i h. let e : 16 + ahead 1 span.lead + i ≡ at + i = omega arith in ap (slice_index places) e ∙ inside i (omega arith) ∙ ap₂ row same (omega arith))
    (λ p h. outside p (elim h [ inl l ↦ inl (omega arith) | inr l ↦ inr (omega arith) ]))
    first others

pub filled_block : (kind block n first start : ℕ) (span : Span) (raw : List (List ℕ)) (places work row : List ℕ) → IsSpan span → IsKind kind span → last_step kind span < n → n * width kind ≤ 256 → length places ≡ 288 → start ≡ span.start → first ≡ ahead 1 span.lead
    → (IsZeroOutside n places → IsSpread 11 n places work)
    → ((i : ℕ) → start + i < 256 → (first + i + (width kind - 1)) / width kind < n → slice_index row (start + i) ≡ slice_index work (16 + (first + i + (width kind - 1)) / width kind))
    → AreSteps kind span raw block places → AreLevels kind span raw block (block + 1) row
filled_block kind block n first start span raw places work row is_span is_kind whole bound long from ahead smooth copy steps k inside =
    let most = kind_three span.lead kind is_kind.1 in
    let ends = span_end span is_span in
    let one = step_one span k in
    let small = few_places kind n is_kind.0 most bound in
    let g = step_of kind span k in
    let last : g ≤ last_step kind span = (walk kind span is_span is_kind).0.within k inside.0 inside.1 in
    let spread = smooth (steps_outside kind block n span raw places is_span is_kind whole small.0 (λ p far. get_or_past places p 0 (omega arith)) steps) in
    let done = spread_steps kind block n g span raw places work is_span is_kind whole small.0 last steps spread in
    let here : k ≡ start + (k - start) = omega arith in
    let step : first + (k - start) ≡ step_of 1 span k = omega arith in
    let wide : (first + (k - start) + (width kind - 1)) / width kind ≡ g = ap (λ x. (x + (width kind - 1)) / width kind) step ∙ sym (step_wide kind span k is_kind.0 most) in
    ap (slice_index row) here ∙ copy (k - start) (omega arith) (omega (arith, wide)) ∙ ap (λ x. slice_index work (16 + x)) wide ∙ done

pub few_rounds : (kind n : ℕ) (span : Span) → 2 ≤ kind → IsKind kind span → n * width kind ≤ 256 → (n + 15) / 16 ≤ 8
few_rounds kind n span some is_kind bound =
    let small = (few_places kind n is_kind.0 (kind_three span.lead kind is_kind.1) bound).1 some in
    omega arith

pub joined : (kind n : ℕ) (span : Span) (raw old new : List (List ℕ)) → IsSpan span → 2 ≤ kind → IsKind kind span → last_step kind span < n → n * width kind ≤ 256 → ((b : ℕ) → b < 6 → ArePairs (16 * ((n + 15) / 16) + 1) (slice_index_or old b []) (slice_index_or new b [])) → AreBlockSteps (kind - 1) span raw old → AreBlockSteps kind span raw new
joined kind n span raw old new is_span some is_kind whole bound pairs before b below =
    let most = kind_three span.lead kind is_kind.1 in
    let e : kind - 1 + 1 ≡ kind = omega arith in
    let few = few_rounds kind n span some is_kind bound in
    let m = 16 * ((n + 15) / 16) + 1 in
    let next = next_steps (kind - 1) b m span raw (slice_index_or old b []) (slice_index_or new b []) is_span (omega arith) (omega arith) in
    let P : ℕ → Type 0 = λ x. IsKind x span → last_step x span < m → m ≤ 129 → AreSteps (kind - 1) span raw b (slice_index_or old b []) → ArePairs m (slice_index_or old b []) (slice_index_or new b []) → AreSteps x span raw b (slice_index_or new b []) in
    subst P e next is_kind (omega arith) (omega arith) (before b below) (pairs b below)

-- ---- the kinds of a channel
one_or_three : (lead : Lead) → (greatest_kind lead ≡ 1) ⊎ (greatest_kind lead ≡ 3)
one_or_three Free = inr (omega arith)
one_or_three Coupled = inr (omega arith)
one_or_three Coupling = inr (omega arith)
one_or_three Low = inl (omega arith)
