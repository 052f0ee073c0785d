-- Which groups are refused, by steps in place of bins; and what a spelling without them gives.
use Rattle.std.proofs.Common.{◌≡◌, ℕ, zero, suc, ◌+◌, ◌-◌, ◌*◌, ◌/◌, ◌%◌, ◌<◌, ◌≤◌, ◌⊎◌, Bool, true, false, List, length, slice_index, inl, inr, arith, refl, ap, sym, ◌∙◌, subst}
use Rattle.std.specs.Prelude.{if◌then◌else◌}
use Rattle.std.proofs.lemmas.Bool.{cases_eq, cases_lt}
use Rattle.ac_base.specs.declared.spans.Lead.{Lead}
use Rattle.ac_base.specs.declared.spans.Span.{Span}
use Rattle.ac_base.specs.Spans.{IsIn, IsKind, is_coupling}
use Rattle.ac_base.specs.Shape.{IsSpan}
use Rattle.ac_base.specs.Spans.{groups_of}
use Rattle.ac_expo.specs.Steps.{step_of, bin_of, last_step}
use Rattle.ac_expo.specs.Greatest.{IsSpellable}
use Rattle.ac_expo.specs.Spelling.{Spelling}
use Rattle.ac_expo.specs.Groups.{mapped_of, sum_to, spelled_exponent, IsOutside, IsOfGroup, IsRefused, NoneRefused, IsExpanded}
use Rattle.ac_expo.specs.Sums.{IsBadSum, HasBadSum}
use Rattle.ac_expo.proofs.Walk.{range, walk, origin, span_kind, start_before_end}
use Rattle.ac_expo.proofs.Places.{step_of_bin, bin_from, bin_low, step_up_to, step_some}
use Rattle.ac_expo.proofs.Spellings.{sum_none, sum_more, mapped_zero, mapped_one, mapped_two, true_or_false}

-- a step up to the last one with a bin is outside 0 to 24
abbrev pub IsBad : ℕ → Span → Spelling → ℕ → Type 0
IsBad kind span spelled g = (g ≤ step_of kind span (span.end - 1)) × IsOutside span.lead spelled g

pub bad_refused : (kind : ℕ) (span : Span) (spelled : Spelling) → IsSpan span → IsKind kind span → (place g : ℕ) → IsOfGroup place g → IsBad kind span spelled g → IsRefused kind span spelled place
bad_refused kind span spelled is_span is_kind place g of bad =
    let one = span_kind span.lead kind is_kind.0 is_kind.1 in
    let some = (start_before_end span.lead span.start span.end (range span is_span)).0 in
    let k = bin_of kind span g in
    let e : g ≡ step_of kind span k = sym (step_of_bin kind span g one (omega arith)) in
    let low = bin_low kind span g (span.end - 1) one (omega arith) bad.0 in
    let P : ℕ → Type 0 = λ x. IsOfGroup place x in
    let Q : ℕ → Type 0 = λ x. IsOutside span.lead spelled x in
    inr (k, ((bin_from kind span g, omega arith), subst P e of, subst Q e bad.1))

pub refused_bad : (kind : ℕ) (span : Span) (spelled : Spelling) → IsSpan span → IsKind kind span → (place : ℕ) → IsRefused kind span spelled place → (124 < slice_index spelled.groups place) ⊎ (IsBad kind span spelled (3 * place + 1) ⊎ (IsBad kind span spelled (3 * place + 2) ⊎ IsBad kind span spelled (3 * place + 3)))
refused_bad kind span spelled is_span is_kind place refused =
    let w = (walk kind span is_span is_kind).0 in
    let B : ℕ → Type 0 = IsBad kind span spelled in
    elim refused [
      | inl over ↦ inl over
      | inr bad ↦
          let g = step_of kind span bad.0 in
          let up = step_up_to kind span (last_step kind span) w bad.0 (span.end - 1) bad.1.0.0 (omega arith) in
          let here : B g = (up, bad.1.2) in
          inr (elim (cases_eq g (3 * place + 1)) [
            | inl e ↦ inl (subst B e here)
            | inr ne ↦ inr (elim (cases_eq g (3 * place + 2)) [
              | inl e ↦ inl (subst B e here)
              | inr ne2 ↦ let e : g ≡ 3 * place + 3 = omega arith in inr (subst B e here)
            ])
          ])
    ]

-- ---- by a list of sums
to_sum : (kind : ℕ) (span : Span) (spelled : Spelling) (sums : List ℕ) (last g : ℕ) → last ≡ step_of kind span (span.end - 1) → slice_index sums g ≡ sum_to span.lead spelled g → IsBad kind span spelled g → IsBadSum sums last g
to_sum kind span spelled sums last g e same bad = (omega arith, elim bad.1 [ inl l ↦ inl (omega arith) | inr l ↦ inr (omega arith) ])

from_sum : (kind : ℕ) (span : Span) (spelled : Spelling) (sums : List ℕ) (last g : ℕ) → last ≡ step_of kind span (span.end - 1) → slice_index sums g ≡ sum_to span.lead spelled g → IsBadSum sums last g → IsBad kind span spelled g
from_sum kind span spelled sums last g e same bad = (omega arith, elim bad.1 [ inl l ↦ inl (omega arith) | inr l ↦ inr (omega arith) ])

pub by_sums : (kind : ℕ) (span : Span) (spelled : Spelling) (sums : List ℕ) (last place : ℕ) → IsSpan span → IsKind kind span → last ≡ step_of kind span (span.end - 1) → length spelled.groups ≡ groups_of kind span → place < length spelled.groups → ((g : ℕ) → g ≤ 3 * length spelled.groups → slice_index sums g ≡ sum_to span.lead spelled g) → slice_index spelled.groups place ≤ 124 → (HasBadSum sums last (3 * place) → IsRefused kind span spelled place) × (IsRefused kind span spelled place → HasBadSum sums last (3 * place))
by_sums kind span spelled sums last place is_span is_kind e count within same small =
    let to_ = λ (g : ℕ) (of : IsOfGroup place g) (b : IsBadSum sums last g). bad_refused kind span spelled is_span is_kind place g of (from_sum kind span spelled sums last g e (same g (omega arith)) b) in
    let back_ = λ (g : ℕ) (of : IsOfGroup place g) (b : IsBad kind span spelled g). to_sum kind span spelled sums last g e (same g (omega arith)) b in (
      (λ has. elim has [
        | inl b ↦ to_ (3 * place + 1) (omega arith, omega arith) b
        | inr more ↦ elim more [ inl b ↦ to_ (3 * place + 2) (omega arith, omega arith) b | inr b ↦ to_ (3 * place + 3) (omega arith, omega arith) b ]
      ]),
      (λ refused. elim (refused_bad kind span spelled is_span is_kind place refused) [
        | inl over ↦ absurd (omega arith)
        | inr bad ↦ elim bad [
          | inl b ↦ inl (back_ (3 * place + 1) (omega arith, omega arith) b)
          | inr more ↦ inr (elim more [ inl b ↦ inl (back_ (3 * place + 2) (omega arith, omega arith) b) | inr b ↦ inr (back_ (3 * place + 3) (omega arith, omega arith) b) ])
        ]
      ]),
    )

-- ---- a spelling in which no group is refused
free_reference : (c : Bool) (a : ℕ) → c ≡ false → (if c then 2 * a else a) ≡ a
free_reference true a free = cc
free_reference false a free = refl

sum_first : (kind : ℕ) (span : Span) (spelled : Spelling) → spelled.first ≤ 15 → is_coupling span.lead ≡ false → sum_to span.lead spelled 0 ≡ spelled.first
sum_first kind span spelled first free = sum_none span.lead spelled ∙ free_reference (is_coupling span.lead) spelled.first free

pub within_all : (kind : ℕ) (span : Span) (spelled : Spelling) → IsSpan span → IsKind kind span → length spelled.groups ≡ groups_of kind span → spelled.first ≤ 15 → NoneRefused kind span spelled → (k : ℕ) → IsIn span k → (2 * step_of kind span k ≤ sum_to span.lead spelled (step_of kind span k)) × (sum_to span.lead spelled (step_of kind span k) ≤ 2 * step_of kind span k + 24)
within_all kind span spelled is_span is_kind count first none k inside =
    let one = span_kind span.lead kind is_kind.0 is_kind.1 in
    let w = (walk kind span is_span is_kind).0 in
    let g = step_of kind span k in
    let at = w.within k inside.0 inside.1 in
    elim (cases_eq g 0) [
      | inl z ↦ elim (true_or_false (is_coupling span.lead)) [
        | inl joined ↦ let some = step_some kind span k one joined in absurd (omega arith)
        | inr free ↦ let e : sum_to span.lead spelled g ≡ spelled.first = ap (sum_to span.lead spelled) z ∙ sum_first kind span spelled first free in (omega arith, omega arith)
      ]
      | inr ne ↦
          let place = (g - 1) / 3 in
          let no_ = none place (omega arith) in
          let low : 2 * g ≤ sum_to span.lead spelled g = elim (cases_lt (sum_to span.lead spelled g) (2 * g)) [ inl l ↦ absurd (no_ (inr (k, (inside, (omega arith, omega arith), inl l)))) | inr l ↦ l ] in
          let high : sum_to span.lead spelled g ≤ 2 * g + 24 = elim (cases_lt (2 * g + 24) (sum_to span.lead spelled g)) [ inl l ↦ absurd (no_ (inr (k, (inside, (omega arith, omega arith), inr l)))) | inr l ↦ l ] in
          (low, high)
    ]

-- M of a group up to 124 is at most 4
mapped_least : (groups : List ℕ) (i : ℕ) → slice_index groups (i / 3) ≤ 124 → mapped_of groups i ≤ 4
mapped_least groups i small =
    elim (cases_eq (i % 3) 0) [
      | inl e ↦ let m = mapped_zero groups i e in omega arith
      | inr ne ↦ elim (cases_eq (i % 3) 1) [
        | inl e ↦ let m = mapped_one groups i e in omega arith
        | inr ne1 ↦ let m = mapped_two groups i (omega arith) in omega arith
      ]
    ]

pub expanded_spellable : (kind : ℕ) (span : Span) (spelled : Spelling) (exps : List ℕ) → IsSpan span → IsKind kind span → length spelled.groups ≡ groups_of kind span → spelled.first ≤ 15 → NoneRefused kind span spelled → IsExpanded kind span spelled exps → IsSpellable kind span exps
expanded_spellable kind span spelled exps is_span is_kind count first none by =
    let one = span_kind span.lead kind is_kind.0 is_kind.1 in
    let w = (walk kind span is_span is_kind).0 in
    let all = within_all kind span spelled is_span is_kind count first none in
    record {
      small = λ k inside. let e = by k inside in let a = all k inside in omega arith;
      constant = λ j k in_j in_k same. by j in_j ∙ ap (spelled_exponent span.lead spelled) same ∙ sym (by k in_k);
      near = λ j k in_j in_k next.
          let g = step_of kind span j in
          let at = w.within k in_k.0 in_k.1 in
          let small : slice_index spelled.groups (g / 3) ≤ 124 = elim (cases_lt 124 (slice_index spelled.groups (g / 3))) [ inl l ↦ absurd (none (g / 3) (omega arith) (inl l)) | inr l ↦ l ] in
          let m = mapped_least spelled.groups g small in
          let more = sum_more span.lead spelled g in
          let a = all j in_j in
          let b = all k in_k in
          let e = by j in_j in
          let e2 = by k in_k in
          let s : sum_to span.lead spelled (step_of kind span k) ≡ sum_to span.lead spelled (g + 1) = ap (sum_to span.lead spelled) next in
          (omega arith, omega arith);
      first = λ free.
          let o = origin span.lead span.start span.end kind (range span is_span) one free in
          let e = by 0 (omega arith, omega arith) in
          let s : sum_to span.lead spelled (step_of kind span 0) ≡ spelled.first = ap (sum_to span.lead spelled) o.2 ∙ sum_first kind span spelled first free in
          omega arith;
    }

-- a sum is small
pub sum_small : (lead : Lead) (spelled : Spelling) (n : ℕ) → sum_to lead spelled 0 ≤ 30 → ((i : ℕ) → mapped_of spelled.groups i ≤ 10) → sum_to lead spelled n ≤ 30 + 10 * n
sum_small lead spelled zero first each = omega arith
sum_small lead spelled (suc n) first each =
    let e : n + 1 ≡ suc n = omega arith in
    let P : ℕ → Type 0 = λ x. sum_to lead spelled x ≤ 30 + 10 * x in
    subst P e (omega (arith, sum_more lead spelled n, sum_small lead spelled n first each, each n))
