-- Sums of steps, group by group.
use Rattle.std.proofs.Common.{◌≡◌, ℕ, ◌+◌, ◌-◌, ◌*◌, ◌/◌, ◌%◌, ◌<◌, List, length, slice_index, slice_set, inl, inr, arith, ap, sym, ◌∙◌, subst}
use Rattle.std.proofs.lemmas.Bool.{cases_eq, cases_lt}
use Rattle.std.proofs.lemmas.List.{get_or-set_same, get_or-set_other, length-set}
use Rattle.ac_base.specs.declared.spans.Lead.{Lead}
use Rattle.ac_base.specs.declared.spans.Span.{Span}
use Rattle.ac_base.specs.Spans.{IsKind, groups_of}
use Rattle.ac_base.specs.Shape.{IsSpan}
use Rattle.ac_expo.specs.Steps.{step_of}
use Rattle.ac_expo.specs.Spelling.{Spelling}
use Rattle.ac_expo.specs.Groups.{mapped_of, sum_to, IsRefused}
use Rattle.ac_expo.specs.Sums.{AreSums, with_group, IsBadGroup}
use Rattle.ac_expo.proofs.Spellings.{sum_more, mapped_zero, mapped_one, mapped_two}
use Rattle.ac_expo.proofs.Refusals.{by_sums}

-- one sum more
one_put : (lead : Lead) (s : Spelling) (sums : List ℕ) (n at v : ℕ) → at ≡ n + 1 → n + 1 < length sums → AreSums lead s n sums → v ≡ sum_to lead s (n + 1) → AreSums lead s (n + 1) (slice_set sums at v)
one_put lead s sums n at v place room before here g up =
    elim (cases_eq g at) [
      | inl e ↦ ap (slice_index (slice_set sums at v)) e ∙ (get_or-set_same sums at v 0 (omega arith) ∙ (here ∙ ap (sum_to lead s) (sym (e ∙ place))))
      | inr ne ↦ get_or-set_other sums at g v 0 ne ∙ before g (omega arith)
    ]

-- the three differences of a group, each plus 2
parts : (groups : List ℕ) (place group : ℕ) → group ≡ slice_index groups place
    → (group / 25 ≡ mapped_of groups (3 * place)) × (group / 5 % 5 ≡ mapped_of groups (3 * place + 1)) × (group % 5 ≡ mapped_of groups (3 * place + 2))
parts groups place group is =
    let a : 3 * place / 3 ≡ place = omega arith in
    let b : (3 * place + 1) / 3 ≡ place = omega arith in
    let c : (3 * place + 2) / 3 ≡ place = omega arith in (
      sym (mapped_zero groups (3 * place) (omega arith) ∙ ap (λ k. slice_index groups k / 25) a ∙ ap (λ x. x / 25) (sym is)),
      sym (mapped_one groups (3 * place + 1) (omega arith) ∙ ap (λ k. slice_index groups k / 5 % 5) b ∙ ap (λ x. x / 5 % 5) (sym is)),
      sym (mapped_two groups (3 * place + 2) (omega arith) ∙ ap (λ k. slice_index groups k % 5) c ∙ ap (λ x. x % 5) (sym is)),
    )

-- the sums of one group more
pub group_summed : (lead : Lead) (s : Spelling) (sums : List ℕ) (at place group sum : ℕ) → at ≡ 3 * place → 3 * place + 3 < length sums → group ≡ slice_index s.groups place → sum ≡ sum_to lead s (3 * place) → AreSums lead s (3 * place) sums
    → AreSums lead s (3 * (place + 1)) (with_group group at sum sums) × (sum + group / 25 + group / 5 % 5 + group % 5 ≡ sum_to lead s (3 * (place + 1)))
group_summed lead s sums at place group sum here room is so before =
    let p = parts s.groups place group is in
    let n = 3 * place in
    let next : n + 1 + 1 ≡ n + 2 = omega arith in
    let next2 : n + 2 + 1 ≡ n + 3 = omega arith in
    let all : n + 3 ≡ 3 * (place + 1) = omega arith in
    let first = sum + group / 25 in
    let second = first + group / 5 % 5 in
    let third = second + group % 5 in
    let f : first ≡ sum_to lead s (n + 1) = omega (arith, so, p.0, sum_more lead s n) in
    let g : second ≡ sum_to lead s (n + 2) = omega (arith, f, p.1, sum_more lead s (n + 1), ap (sum_to lead s) next) in
    let h : third ≡ sum_to lead s (n + 3) = omega (arith, g, p.2, sum_more lead s (n + 2), ap (sum_to lead s) next2) in
    let s1 = slice_set sums (at + 1) first in
    let s2 = slice_set s1 (at + 2) second in
    let a1 = one_put lead s sums n (at + 1) first (omega arith) (omega arith) before f in
    let a2 : AreSums lead s (n + 2) s2 =
    subst (λ k. AreSums lead s k s2) next (one_put lead s s1 (n + 1) (at + 2) second (omega arith) (omega (arith, length-set sums (at + 1) first)) a1 (g ∙ ap (sum_to lead s) (sym next))) in
    let a3 =
    one_put lead s s2 (n + 2) (at + 3) third (omega arith) (omega (arith, length-set sums (at + 1) first, length-set s1 (at + 2) second)) a2 (h ∙ ap (sum_to lead s) (sym next2)) in
    (subst (λ k. AreSums lead s k (slice_set s2 (at + 3) third)) (next2 ∙ all) a3, h ∙ ap (sum_to lead s) all)

-- which groups are refused, by the sums
pub bad_group : (kind : ℕ) (span : Span) (spelled : Spelling) (sums : List ℕ) (last place group at : ℕ) → IsSpan span → IsKind kind span → last ≡ step_of kind span (span.end - 1) → length spelled.groups ≡ groups_of kind span → place < length spelled.groups
    → AreSums span.lead spelled (3 * length spelled.groups) sums → group ≡ slice_index spelled.groups place → at ≡ 3 * place
    → (IsBadGroup group sums last at → IsRefused kind span spelled place) × (IsRefused kind span spelled place → IsBadGroup group sums last at)
bad_group kind span spelled sums last place group at is_span is_kind e count within same is here =
    subst (λ n. (IsBadGroup group sums last n → IsRefused kind span spelled place) × (IsRefused kind span spelled place → IsBadGroup group sums last n)) (sym here)
    (elim (cases_lt 124 group) [
      | inl over ↦ ((λ bad. inl (omega (arith, over, is))), (λ refused. inl over))
      | inr small ↦
          let b = by_sums kind span spelled sums last place is_span is_kind e count within same (omega (arith, small, is)) in
          ((λ bad. elim bad [ inl over ↦ absurd (omega arith) | inr has ↦ b.0 has ]), (λ refused. inr (b.1 refused)))
    ])

pub with_group_long : (group at sum : ℕ) (sums : List ℕ) → length (with_group group at sum sums) ≡ length sums
with_group_long group at sum sums =
    let first = sum + group / 25 in
    let second = first + group / 5 % 5 in
    let s1 = slice_set sums (at + 1) first in
    let s2 = slice_set s1 (at + 2) second in
    length-set s2 (at + 3) (second + group % 5) ∙ (length-set s1 (at + 2) second ∙ length-set sums (at + 1) first)
