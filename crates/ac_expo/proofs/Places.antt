-- The first bins of steps, and the exponents of steps of a list that can be spelled.
use Rattle.std.proofs.Common.{◌≡◌, ℕ, ◌+◌, ◌-◌, ◌*◌, ◌/◌, ◌<◌, ◌≤◌, ◌⊎◌, min, Bool, true, false, List, slice_index, inl, inr, arith, refl, ap, sym, ◌∙◌, subst}
use Rattle.std.specs.Prelude.{if◌then◌else◌}
use Rattle.std.proofs.lemmas.Nat.{le-div}
use Rattle.std.proofs.lemmas.Bool.{cases_eq, cases_lt, lt-ltb, le-ltb, ne_eqb}
use Rattle.ac_base.specs.declared.spans.Lead.{Lead}
use Rattle.ac_base.specs.declared.spans.Lead.TheVariants.{Free, Coupled, Coupling, Low}
use Rattle.ac_base.specs.declared.spans.Span.{Span}
use Rattle.ac_base.specs.Spans.{IsIn, IsKind, is_coupling}
use Rattle.ac_base.specs.Shape.{IsSpan}
use Rattle.ac_expo.proofs.Walk.{range, IsRange}
use Rattle.ac_base.specs.Spans.{width}
use Rattle.ac_expo.specs.Steps.{ahead, step_of, bin_of, last_step}
use Rattle.ac_expo.specs.Greatest.{IsSpellable}
use Rattle.ac_expo.specs.Groups.{first_of, reference, past, at_step}
use Rattle.ac_expo.proofs.Walk.{IsWalk, IsOneOf, walk, rises, origin, span_kind, start_before_end}

-- the step of its first bin; a is at most the width, and less where step 0 has a bin
place_up : (kind start a g : ℕ) → IsOneOf kind → a ≤ width kind → 0 < g → (start + (g * width kind - a) - start + a) / width kind ≡ g
place_up kind start a g one small some =
    let P : ℕ → Type 0 = λ n. a ≤ width n → (start + (g * width n - a) - start + a) / width n ≡ g in
    let R : P kind = elim one [
      | inl e ↦ subst P (sym e) (λ l. omega arith)
      | inr more ↦ elim more [ inl e ↦ subst P (sym e) (λ l. omega arith) | inr e ↦ subst P (sym e) (λ l. omega arith) ]
    ] in R small

-- a bin of this step or a later one isn't before it
place_low : (kind start a g k : ℕ) → IsOneOf kind → start ≤ k → g ≤ (k - start + a) / width kind → start + (g * width kind - a) ≤ k
place_low kind start a g k one from up =
    let P : ℕ → Type 0 = λ n. g ≤ (k - start + a) / width n → start + (g * width n - a) ≤ k in
    let R : P kind = elim one [
      | inl e ↦ subst P (sym e) (λ l. omega arith)
      | inr more ↦ elim more [ inl e ↦ subst P (sym e) (λ l. omega arith) | inr e ↦ subst P (sym e) (λ l. omega arith) ]
    ] in R up

ahead_small : (kind : ℕ) (lead : Lead) → ahead kind lead ≤ width kind
ahead_small kind Free = omega arith
ahead_small kind Coupled = omega arith
ahead_small kind Coupling = omega arith
ahead_small kind Low = omega arith

pub step_of_bin : (kind : ℕ) (span : Span) (g : ℕ) → IsOneOf kind → 0 < g → step_of kind span (bin_of kind span g) ≡ g
unfolding step_of bin_of
step_of_bin kind span g one some = place_up kind span.start (ahead kind span.lead) g one (ahead_small kind span.lead) some

pub bin_from : (kind : ℕ) (span : Span) (g : ℕ) → span.start ≤ bin_of kind span g
unfolding bin_of
bin_from kind span g = omega arith

pub bin_low : (kind : ℕ) (span : Span) (g k : ℕ) → IsOneOf kind → span.start ≤ k → g ≤ step_of kind span k → bin_of kind span g ≤ k
unfolding step_of bin_of
bin_low kind span g k one from up = place_low kind span.start (ahead kind span.lead) g k one from up

-- ---- the exponents of steps
pub at_first : (kind : ℕ) (span : Span) (exps : List ℕ) → at_step kind span exps 0 ≡ reference span.lead (first_of span exps)
unfolding at_step
at_first kind span exps = refl

pub at_bin : (kind : ℕ) (span : Span) (exps : List ℕ) (g : ℕ) → 0 < g → bin_of kind span g < span.end → at_step kind span exps g ≡ slice_index exps (bin_of kind span g)
unfolding at_step
at_bin kind span exps g some inside =
    let e : (g ≡ 0 → ⊥) = λ z. omega arith in
    rw (ne_eqb _ _ e, lt-ltb _ _ inside) refl

pub at_past : (kind : ℕ) (span : Span) (exps : List ℕ) (g : ℕ) → 0 < g → span.end ≤ bin_of kind span g → at_step kind span exps g ≡ past kind span exps g
unfolding at_step
at_past kind span exps g some outside =
    let e : (g ≡ 0 → ⊥) = λ z. omega arith in
    rw (ne_eqb _ _ e, le-ltb _ _ outside) refl

past-is : (kind : ℕ) (span : Span) (exps : List ℕ) (g : ℕ) → past kind span exps g ≡ min 24 (slice_index exps (span.end - 1) + 2 * (g - step_of kind span (span.end - 1)))
unfolding past
past-is kind span exps g = refl

pub record IsPlaced (kind : ℕ) (span : Span) (exps : List ℕ) : Type 0 where
  pub one : IsOneOf kind
  pub some : span.start < span.end
  pub walk : IsWalk (step_of kind span) span.start span.end (last_step kind span)
  pub can : IsSpellable kind span exps

pub placed : (kind : ℕ) (span : Span) (exps : List ℕ) → IsSpan span → IsKind kind span → IsSpellable kind span exps → IsPlaced kind span exps
placed kind span exps is_span is_kind can =
    record {
      one = span_kind span.lead kind is_kind.0 is_kind.1;
      some = (start_before_end span.lead span.start span.end (range span is_span)).0;
      walk = (walk kind span is_span is_kind).0;
      can = can;
    }

-- the exponent of a bin is that of its step, where the step isn't 0
pub at_step_of : (kind : ℕ) (span : Span) (exps : List ℕ) → IsPlaced kind span exps → (k : ℕ) → IsIn span k → 0 < step_of kind span k → at_step kind span exps (step_of kind span k) ≡ slice_index exps k
at_step_of kind span exps p k inside some =
    let g = step_of kind span k in
    let low = bin_low kind span g k p.one inside.0 (omega arith) in
    let from = bin_from kind span g in
    at_bin kind span exps g some (omega arith) ∙ p.can.constant (bin_of kind span g) k (from, omega arith) inside (step_of_bin kind span g p.one some)

pub step_up_to : (kind : ℕ) (span : Span) (last : ℕ) → IsWalk (step_of kind span) span.start span.end last → (j k : ℕ) → span.start ≤ j → j ≤ k → step_of kind span j ≤ step_of kind span k
step_up_to kind span last w j k from l =
    let e : j + (k - j) ≡ k = omega arith in
    let P : ℕ → Type 0 = λ x. step_of kind span j ≤ step_of kind span x in
    subst P e (rises (step_of kind span) span.start w.up j (k - j) from)

abbrev Near : ℕ → ℕ → Type 0
Near a b = (b ≤ a + 2) × (a ≤ b + 2)

near_past : (e s g : ℕ) → s < g → Near (min 24 (e + 2 * (g - s))) (min 24 (e + 2 * (g + 1 - s)))
near_past e s g l = (omega arith, omega arith)

-- neighbours are within 2, from step 1 on
near_later : (kind : ℕ) (span : Span) (exps : List ℕ) → IsPlaced kind span exps → (g : ℕ) → 0 < g → Near (at_step kind span exps g) (at_step kind span exps (g + 1))
near_later kind span exps p g some =
    let s = step_of kind span (span.end - 1) in
    let from = bin_from kind span g in
    let from2 = bin_from kind span (g + 1) in
    let at = step_of_bin kind span g p.one some in
    let at2 = step_of_bin kind span (g + 1) p.one (omega arith) in
    elim (cases_lt (bin_of kind span (g + 1)) span.end) [
      | inl inside2 ↦
          let up = step_up_to kind span (last_step kind span) p.walk (bin_of kind span (g + 1)) (span.end - 1) from2 (omega arith) in
          let low = bin_low kind span g (span.end - 1) p.one (omega arith) (omega arith) in
          let n = p.can.near (bin_of kind span g) (bin_of kind span (g + 1)) (from, omega arith) (from2, inside2) (omega arith) in
          let a = at_bin kind span exps g some (omega arith) in
          let b = at_bin kind span exps (g + 1) (omega arith) inside2 in
          (omega arith, omega arith)
      | inr past2 ↦
          let b = at_past kind span exps (g + 1) (omega arith) past2 ∙ past-is kind span exps (g + 1) in
          let last : s < g + 1 = elim (cases_lt s (g + 1)) [ inl l ↦ l | inr l ↦ absurd (let low = bin_low kind span (g + 1) (span.end - 1) p.one (omega arith) l in let some_ = p.some in omega arith) ] in
          elim (cases_lt (bin_of kind span g) span.end) [
            | inl inside ↦
                let up = step_up_to kind span (last_step kind span) p.walk (bin_of kind span g) (span.end - 1) from (omega arith) in
                let a = at_bin kind span exps g some inside in
                let e = p.can.constant (bin_of kind span g) (span.end - 1) (from, inside) (omega arith, omega arith) (omega arith) in
                let small = p.can.small (span.end - 1) (omega arith, omega arith) in
                let one : g + 1 - s ≡ 1 = omega arith in
                (omega arith, omega arith)
            | inr past1 ↦
                let a = at_past kind span exps g some past1 ∙ past-is kind span exps g in
                let less : s < g = elim (cases_lt s g) [ inl l ↦ l | inr l ↦ absurd (let low = bin_low kind span g (span.end - 1) p.one (omega arith) l in let some_ = p.some in omega arith) ] in
                let n = near_past (slice_index exps (span.end - 1)) s g less in
                (omega arith, omega arith)
          ]
    ]

-- ---- the first step
width_some : (kind : ℕ) → IsOneOf kind → 0 < width kind
width_some kind one =
    let P : ℕ → Type 0 = λ n. 0 < width n in
    elim one [
      | inl e ↦ subst P (sym e) (omega arith)
      | inr more ↦ elim more [ inl e ↦ subst P (sym e) (omega arith) | inr e ↦ subst P (sym e) (omega arith) ]
    ]

bin_one : (w start : ℕ) → 0 < w → (start + (1 * w - w) ≡ start) × (start + (1 * w - (w - 1)) ≡ start + 1)
bin_one w start some = (omega arith, omega arith)

bin_one_at : (kind : ℕ) (start : ℕ) (c : Bool) → IsOneOf kind → (c ≡ true → start + (1 * width kind - (if c then width kind else width kind - 1)) ≡ start) × (c ≡ false → start + (1 * width kind - (if c then width kind else width kind - 1)) ≡ start + 1)
bin_one_at kind start true one = ((λ e. (bin_one (width kind) start (width_some kind one)).0), (λ e. cc))
bin_one_at kind start false one = ((λ e. cc), (λ e. (bin_one (width kind) start (width_some kind one)).1))

pub first_bin : (kind : ℕ) (span : Span) → IsOneOf kind → (is_coupling span.lead ≡ true → bin_of kind span 1 ≡ span.start) × (is_coupling span.lead ≡ false → bin_of kind span 1 ≡ span.start + 1)
unfolding bin_of
first_bin kind span one = bin_one_at kind span.start (is_coupling span.lead) one

not_before : (w x : ℕ) → 0 < w → 1 ≤ (x + w) / w
not_before w x some = le-div 1 (x + w) w some (omega arith)

step_some_at : (kind x : ℕ) (c : Bool) → IsOneOf kind → c ≡ true → 1 ≤ (x + (if c then width kind else width kind - 1)) / width kind
step_some_at kind x true one e = not_before (width kind) x (width_some kind one)
step_some_at kind x false one e = cc

-- each step of the coupling channel's bins is above 0
pub step_some : (kind : ℕ) (span : Span) (k : ℕ) → IsOneOf kind → is_coupling span.lead ≡ true → 1 ≤ step_of kind span k
unfolding step_of
step_some kind span k one e = step_some_at kind (k - span.start) (is_coupling span.lead) one e

wide : (lead : Lead) (start end : ℕ) → IsRange lead start end → is_coupling lead ≡ false → (start ≡ 0) × (start + 1 < end)
wide Free start end range free = (omega arith, omega arith)
wide Coupled start end range free = (omega arith, omega arith)
wide Coupling start end range free = cc
wide Low start end range free = (omega arith, omega arith)

reference_is : (c : Bool) (a b : ℕ) → (c ≡ true → (if c then 2 * (if c then a / 2 else b) else (if c then a / 2 else b)) ≡ 2 * (a / 2)) × (c ≡ false → (if c then 2 * (if c then a / 2 else b) else (if c then a / 2 else b)) ≡ b)
reference_is true a b = (λ e. refl, λ e. cc)
reference_is false a b = (λ e. cc, λ e. refl)

pub at_first_is : (kind : ℕ) (span : Span) (exps : List ℕ) → (is_coupling span.lead ≡ true → at_step kind span exps 0 ≡ 2 * (slice_index exps span.start / 2)) × (is_coupling span.lead ≡ false → at_step kind span exps 0 ≡ slice_index exps 0)
unfolding at_step
at_first_is kind span exps = reference_is (is_coupling span.lead) (slice_index exps span.start) (slice_index exps 0)

true_or_false : (c : Bool) → (c ≡ true) ⊎ (c ≡ false)
true_or_false true = inl refl
true_or_false false = inr refl

near_first : (kind : ℕ) (span : Span) (exps : List ℕ) → IsSpan span → IsPlaced kind span exps → Near (at_step kind span exps 0) (at_step kind span exps 1)
near_first kind span exps is_span p =
    let b = first_bin kind span p.one in
    let a = at_first_is kind span exps in
    elim (true_or_false (is_coupling span.lead)) [
      | inl joined ↦
          let e = b.0 joined in
          let some = p.some in
          let a1 = at_bin kind span exps 1 (omega arith) (omega arith) ∙ ap (slice_index exps) e in
          let a0 = a.0 joined in
          (omega arith, omega arith)
      | inr free ↦
          let e = b.1 free in
          let l = wide span.lead span.start span.end (range span is_span) free in
          let a1 = at_bin kind span exps 1 (omega arith) (omega arith) in
          let a0 = a.1 free in
          let o = origin span.lead span.start span.end kind (range span is_span) p.one free in
          let at = step_of_bin kind span 1 p.one (omega arith) in
          let n = p.can.near 0 (bin_of kind span 1) (omega arith, omega arith) (omega arith, omega arith) (omega arith) in
          (omega arith, omega arith)
    ]

pub near_steps : (kind : ℕ) (span : Span) (exps : List ℕ) → IsSpan span → IsPlaced kind span exps → (g : ℕ) → (at_step kind span exps (g + 1) ≤ at_step kind span exps g + 2) × (at_step kind span exps g ≤ at_step kind span exps (g + 1) + 2)
near_steps kind span exps is_span p g =
    elim (cases_eq g 0) [
      | inl e ↦ let P : ℕ → Type 0 = λ x. Near (at_step kind span exps x) (at_step kind span exps (x + 1)) in subst P (sym e) (near_first kind span exps is_span p)
      | inr ne ↦ near_later kind span exps p g (omega arith)
    ]

pub near_next : (kind : ℕ) (span : Span) (exps : List ℕ) → IsSpan span → IsPlaced kind span exps → (g h : ℕ) → h ≡ g + 1 → (at_step kind span exps h ≤ at_step kind span exps g + 2) × (at_step kind span exps g ≤ at_step kind span exps h + 2)
near_next kind span exps is_span p g h e =
    subst (λ k. (at_step kind span exps k ≤ at_step kind span exps g + 2) × (at_step kind span exps g ≤ at_step kind span exps k + 2)) (sym e) (near_steps kind span exps is_span p g)

pub at_small : (kind : ℕ) (span : Span) (exps : List ℕ) → IsSpan span → IsPlaced kind span exps → (g : ℕ) → at_step kind span exps g ≤ 24
at_small kind span exps is_span p g =
    let some = p.some in
    elim (cases_eq g 0) [
      | inl e ↦
          let a = at_first_is kind span exps in
          subst (λ x. at_step kind span exps x ≤ 24) (sym e) (elim (true_or_false (is_coupling span.lead)) [
            | inl joined ↦ let a0 = a.0 joined in let s = p.can.small span.start (omega arith, omega arith) in omega arith
            | inr free ↦ let a0 = a.1 free in let f = p.can.first free in omega arith
          ])
      | inr ne ↦
          elim (cases_lt (bin_of kind span g) span.end) [
            | inl inside ↦ let a = at_bin kind span exps g (omega arith) inside in let s = p.can.small (bin_of kind span g) (bin_from kind span g, inside) in omega arith
            | inr outside ↦ let a = at_past kind span exps g (omega arith) outside ∙ past-is kind span exps g in omega arith
          ]
    ]

cap : (c : Bool) (a b : ℕ) → a ≤ 24 → (c ≡ false → b ≤ 15) → (if c then a / 2 else b) ≤ 15
cap true a b small first = omega arith
cap false a b small first = first refl

pub first_small : (kind : ℕ) (span : Span) (exps : List ℕ) → IsPlaced kind span exps → first_of span exps ≤ 15
first_small kind span exps p =
    let some = p.some in
    let s = p.can.small span.start (omega arith, omega arith) in
    let f = p.can.first in
    cap (is_coupling span.lead) (slice_index exps span.start) (slice_index exps 0) s f
