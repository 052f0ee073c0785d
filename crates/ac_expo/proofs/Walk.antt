-- Steps as bins go up: each bin has the step of the bin before it, or the next step.
use Rattle.std.proofs.Common.{◌≡◌, ℕ, zero, suc, ◌+◌, ◌-◌, ◌/◌, ◌%◌, ◌<◌, ◌≤◌, ◌⊎◌, inl, inr, arith, false, sym, subst}
use Rattle.std.proofs.lemmas.Bool.{cases_eq}
use Rattle.ac_base.specs.declared.spans.Lead.{Lead}
use Rattle.ac_base.specs.declared.spans.Lead.TheVariants.{Free, Coupled, Coupling, Low}
use Rattle.ac_base.specs.declared.spans.Span.{Span}
use Rattle.ac_base.specs.Spans.{IsKind, greatest_kind, is_coupling}
use Rattle.ac_base.specs.Shape.{IsSpan, IsSpanOf}
use Rattle.ac_base.specs.Spans.{width, groups_of}
use Rattle.ac_expo.specs.Steps.{ahead, step_of, last_step}

-- the ends of spans, by remainders
abbrev pub IsRange : Lead → ℕ → ℕ → Type 0
IsRange Free start end = (start ≡ 0) × (73 ≤ end) × (end ≤ 253) × (end % 3 ≡ 1)
IsRange Coupled start end = (start ≡ 0) × (37 ≤ end) × (end ≤ 217) × (end % 12 ≡ 1)
IsRange Coupling start end = (37 ≤ start) × (start < end) × (end ≤ 253) × (start % 12 ≡ 1) × (end % 12 ≡ 1)
IsRange Low start end = (start ≡ 0) × (end ≡ 7)

range_of : (lead : Lead) (start end : ℕ) → IsSpanOf lead start end → IsRange lead start end
range_of Free start end s = (omega arith, omega arith, omega arith, omega arith)
range_of Coupled start end s = (omega arith, omega arith, omega arith, omega arith)
range_of Coupling start end s = (omega arith, omega arith, omega arith, omega arith, omega arith)
range_of Low start end s = s

pub range : (span : Span) → IsSpan span → IsRange span.lead span.start span.end
range span s = range_of span.lead span.start span.end s

pub record IsWalk (at : ℕ → ℕ) (start end last : ℕ) : Type 0 where
  pub first : at start ≤ 1
  pub up : (k : ℕ) → start ≤ k → at k ≤ at (k + 1)
  pub more : (k : ℕ) → start ≤ k → at (k + 1) ≤ at k + 1
  pub within : (k : ℕ) → start ≤ k → k < end → at k ≤ last
  pub whole : last ≤ at (end - 1) + 2

abbrev pub IsOneOf : ℕ → Type 0
IsOneOf kind = (kind ≡ 1) ⊎ ((kind ≡ 2) ⊎ (kind ≡ 3))

pub one_of : (kind : ℕ) → 1 ≤ kind → kind ≤ 3 → IsOneOf kind
one_of kind low high =
    elim (cases_eq kind 1) [
      | inl e ↦ inl e
      | inr ne ↦ elim (cases_eq kind 2) [ inl e ↦ inr (inl e) | inr ne2 ↦ inr (inr (omega arith)) ]
    ]

pub span_kind : (lead : Lead) (kind : ℕ) → 1 ≤ kind → kind ≤ greatest_kind lead → IsOneOf kind
span_kind Free kind low high = one_of kind low high
span_kind Coupled kind low high = one_of kind low high
span_kind Coupling kind low high = one_of kind low high
span_kind Low kind low high = one_of kind low (omega arith)

-- a quotient by the width, as its argument goes up by one
next_part : (kind x : ℕ) → IsOneOf kind → (x / width kind ≤ (x + 1) / width kind) × ((x + 1) / width kind ≤ x / width kind + 1)
next_part kind x one =
    let P : ℕ → Type 0 = λ n. (x / width n ≤ (x + 1) / width n) × ((x + 1) / width n ≤ x / width n + 1) in
    elim one [
      | inl e ↦ subst P (sym e) (omega arith, omega arith)
      | inr more ↦ elim more [ inl e ↦ subst P (sym e) (omega arith, omega arith) | inr e ↦ subst P (sym e) (omega arith, omega arith) ]
    ]

before : (start kind : ℕ) → IsOneOf kind → (0 - start + (width kind - 1)) / width kind ≡ 0
before start kind one =
    let P : ℕ → Type 0 = λ n. (0 - start + (width n - 1)) / width n ≡ 0 in
    elim one [
      | inl e ↦ subst P (sym e) (omega arith)
      | inr more ↦ elim more [ inl e ↦ subst P (sym e) (omega arith) | inr e ↦ subst P (sym e) (omega arith) ]
    ]

-- the last bin and the last step
abbrev Ends : Lead → ℕ → ℕ → ℕ → Type 0
Ends lead start end kind =
    let span : Span = record { start = start; end = end; lead = lead } in
    (step_of kind span start ≤ 1) × (step_of kind span (end - 1) ≤ last_step kind span) × (last_step kind span ≤ step_of kind span (end - 1) + 2) × (last_step kind span ≤ 252)

ends : (lead : Lead) (start end kind : ℕ) → IsRange lead start end → IsOneOf kind → kind ≤ greatest_kind lead → Ends lead start end kind
unfolding step_of groups_of
ends Free start end kind range one most =
    let P : ℕ → Type 0 = Ends Free start end in
    elim one [
      | inl e ↦ subst P (sym e) (omega arith, omega arith, omega arith, omega arith)
      | inr more ↦ elim more [ inl e ↦ subst P (sym e) (omega arith, omega arith, omega arith, omega arith) | inr e ↦ subst P (sym e) (omega arith, omega arith, omega arith, omega arith) ]
    ]
ends Coupled start end kind range one most =
    let P : ℕ → Type 0 = Ends Coupled start end in
    elim one [
      | inl e ↦ subst P (sym e) (omega arith, omega arith, omega arith, omega arith)
      | inr more ↦ elim more [ inl e ↦ subst P (sym e) (omega arith, omega arith, omega arith, omega arith) | inr e ↦ subst P (sym e) (omega arith, omega arith, omega arith, omega arith) ]
    ]
ends Coupling start end kind range one most =
    let P : ℕ → Type 0 = Ends Coupling start end in
    elim one [
      | inl e ↦ subst P (sym e) (omega arith, omega arith, omega arith, omega arith)
      | inr more ↦ elim more [ inl e ↦ subst P (sym e) (omega arith, omega arith, omega arith, omega arith) | inr e ↦ subst P (sym e) (omega arith, omega arith, omega arith, omega arith) ]
    ]
ends Low start end kind range one most =
    let e : kind ≡ 1 = elim one [ inl e ↦ e | inr more ↦ elim more [ inl e ↦ absurd (omega arith) | inr e ↦ absurd (omega arith) ] ] in
    let P : ℕ → Type 0 = Ends Low start end in
    subst P (sym e) (omega arith, omega arith, omega arith, omega arith)

next_step : (kind : ℕ) (span : Span) → IsOneOf kind → (k : ℕ) → span.start ≤ k → (step_of kind span k ≤ step_of kind span (k + 1)) × (step_of kind span (k + 1) ≤ step_of kind span k + 1)
unfolding step_of
next_step kind span one k from =
    let n = next_part kind (k - span.start + ahead kind span.lead) one in
    let e : k + 1 - span.start + ahead kind span.lead ≡ k - span.start + ahead kind span.lead + 1 = omega arith in
    rw e n

-- what never falls is at most what it is later
pub rises : (at : ℕ → ℕ) (start : ℕ) → ((k : ℕ) → start ≤ k → at k ≤ at (k + 1)) → (k n : ℕ) → start ≤ k → at k ≤ at (k + n)
rises at start up k zero from = let e : k + 0 ≡ k = omega arith in rw e (omega arith)
rises at start up k (suc n) from = let e : k + suc n ≡ k + n + 1 = omega arith in rw e (omega (arith, rises at start up k n from, up (k + n) (omega arith)))

pub start_before_end : (lead : Lead) (start end : ℕ) → IsRange lead start end → (start < end) × (end ≤ 253)
start_before_end Free start end range = (omega arith, omega arith)
start_before_end Coupled start end range = (omega arith, omega arith)
start_before_end Coupling start end range = (omega arith, omega arith)
start_before_end Low start end range = (omega arith, omega arith)

pub walk : (kind : ℕ) (span : Span) → IsSpan span → IsKind kind span → IsWalk (step_of kind span) span.start span.end (last_step kind span) × (last_step kind span ≤ 252)
walk kind span is_span kinds =
    let range = range span is_span in
    let one = span_kind span.lead kind kinds.0 kinds.1 in
    let e = ends span.lead span.start span.end kind range one kinds.1 in
    let b = start_before_end span.lead span.start span.end range in
    let up : (k : ℕ) → span.start ≤ k → step_of kind span k ≤ step_of kind span (k + 1) = λ k from. (next_step kind span one k from).0 in (
      record {
        first = e.0;
        up = up;
        more = λ k from. (next_step kind span one k from).1;
        within = λ k from below.
            let q : k + (span.end - 1 - k) ≡ span.end - 1 = omega arith in
            let P : ℕ → Type 0 = λ n. step_of kind span k ≤ step_of kind span n in
            let r = subst P q (rises (step_of kind span) span.start up k (span.end - 1 - k) from) in
            omega arith;
        whole = e.2;
      },
      e.3,
    )

-- all but the coupling channel begin at bin 0, which is step 0
pub origin : (lead : Lead) (start end kind : ℕ) → IsRange lead start end → IsOneOf kind → is_coupling lead ≡ false → (start ≡ 0) × (start < end) × (step_of kind (record { start = start; end = end; lead = lead }) 0 ≡ 0)
unfolding step_of
origin Free start end kind range one free = (omega arith, omega arith, before start kind one)
origin Coupled start end kind range one free = (omega arith, omega arith, before start kind one)
origin Coupling start end kind range one free = cc
origin Low start end kind range one free = (omega arith, omega arith, before start kind one)
