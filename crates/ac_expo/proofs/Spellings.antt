-- What `group` spells is what `expand` reads.
use Rattle.std.proofs.Common.{◌≡◌, ℕ, zero, suc, ◌+◌, ◌*◌, ◌/◌, ◌%◌, ◌<◌, ◌≤◌, ◌⊎◌, Bool, true, false, List, [], ◌∷◌, ◌++◌, length, slice_index, inl, inr, arith, refl, ap, sym, ◌∙◌, subst}
use Rattle.std.proofs.lemmas.Bool.{cases_eq, eq-eqb, ne_eqb}
use Rattle.std.proofs.lemmas.List.{get_or_append_left, get_or_push, length-append}
use Rattle.ac_base.specs.declared.spans.Lead.{Lead}
use Rattle.ac_base.specs.declared.spans.Span.{Span}
use Rattle.ac_base.specs.Spans.{is_coupling}
use Rattle.ac_base.specs.Shape.{IsSpan}
use Rattle.ac_base.specs.Spans.{groups_of}
use Rattle.ac_expo.specs.Steps.{step_of, last_step}
use Rattle.ac_expo.specs.Spelling.{Spelling}
use Rattle.ac_expo.specs.Groups.{reference, at_step, mapped, group_of, groups_below, spelled_of, mapped_of, sum_to, ExpandUndoesGroup}
use Rattle.ac_expo.proofs.Places.{IsPlaced, placed, near_steps, at_small, at_first, at_first_is, at_step_of, step_some}
use Rattle.ac_expo.proofs.Walk.{range, origin}

-- ---- the list of groups
pub groups_none : (kind : ℕ) (span : Span) (exps : List ℕ) → groups_below kind span exps 0 ≡ []
unfolding groups_below
groups_none kind span exps = refl

pub groups_more : (kind : ℕ) (span : Span) (exps : List ℕ) (n : ℕ) → groups_below kind span exps (n + 1) ≡ groups_below kind span exps n ++ group_of kind span exps n ∷ []
unfolding groups_below
groups_more kind span exps n = let e : n + 1 ≡ suc n = omega arith in rw e refl

pub groups_long : (kind : ℕ) (span : Span) (exps : List ℕ) (n : ℕ) → length (groups_below kind span exps n) ≡ n
unfolding groups_below
groups_long kind span exps zero = refl
groups_long kind span exps (suc n) = omega (arith, length-append (groups_below kind span exps n) (group_of kind span exps n ∷ []), groups_long kind span exps n)

pub group_at : (kind : ℕ) (span : Span) (exps : List ℕ) (n j : ℕ) → j < n → slice_index (groups_below kind span exps n) j ≡ group_of kind span exps j
unfolding groups_below
group_at kind span exps zero j l = absurd (omega arith)
group_at kind span exps (suc n) j l =
    let xs = groups_below kind span exps n in
    let long = groups_long kind span exps n in
    elim (cases_eq j n) [
      | inl e ↦ get_or_push xs (group_of kind span exps n) 0 j (omega arith) ∙ ap (group_of kind span exps) (sym e)
      | inr ne ↦ get_or_append_left xs (group_of kind span exps n ∷ []) 0 j (omega arith) ∙ group_at kind span exps n j (omega arith)
    ]

-- ---- M1, M2 and M3
unpacked : (a b c : ℕ) → b ≤ 4 → c ≤ 4 → ((25 * a + 5 * b + c) / 25 ≡ a) × ((25 * a + 5 * b + c) / 5 % 5 ≡ b) × ((25 * a + 5 * b + c) % 5 ≡ c)
unpacked a b c small small2 = (omega arith, omega arith, omega arith)

pub mapped_small : (kind : ℕ) (span : Span) (exps : List ℕ) → IsSpan span → IsPlaced kind span exps → (i : ℕ) → mapped kind span exps i ≤ 4
mapped_small kind span exps is_span p i = let n = near_steps kind span exps is_span p i in omega arith

pub group_small : (kind : ℕ) (span : Span) (exps : List ℕ) → IsSpan span → IsPlaced kind span exps → (place : ℕ) → group_of kind span exps place ≤ 124
group_small kind span exps is_span p place =
    let a = mapped_small kind span exps is_span p (3 * place) in
    let b = mapped_small kind span exps is_span p (3 * place + 1) in
    let c = mapped_small kind span exps is_span p (3 * place + 2) in
    omega arith

pub mapped_zero : (groups : List ℕ) (i : ℕ) → i % 3 ≡ 0 → mapped_of groups i ≡ slice_index groups (i / 3) / 25
unfolding mapped_of
mapped_zero groups i e = rw (eq-eqb _ _ e) refl

pub mapped_one : (groups : List ℕ) (i : ℕ) → i % 3 ≡ 1 → mapped_of groups i ≡ slice_index groups (i / 3) / 5 % 5
unfolding mapped_of
mapped_one groups i e = let ne : (i % 3 ≡ 0 → ⊥) = λ z. omega arith in rw (ne_eqb _ _ ne, eq-eqb _ _ e) refl

pub mapped_two : (groups : List ℕ) (i : ℕ) → i % 3 ≡ 2 → mapped_of groups i ≡ slice_index groups (i / 3) % 5
unfolding mapped_of
mapped_two groups i e = let ne : (i % 3 ≡ 0 → ⊥) = λ z. omega arith in let ne1 : (i % 3 ≡ 1 → ⊥) = λ z. omega arith in rw (ne_eqb _ _ ne, ne_eqb _ _ ne1) refl

mapped_back : (kind : ℕ) (span : Span) (exps : List ℕ) → IsSpan span → IsPlaced kind span exps → (n i : ℕ) → i < 3 * n → mapped_of (groups_below kind span exps n) i ≡ mapped kind span exps i
mapped_back kind span exps is_span p n i l =
    let groups = groups_below kind span exps n in
    let j = i / 3 in
    let M = mapped kind span exps in
    let at = group_at kind span exps n j (omega arith) in
    let u = unpacked (M (3 * j)) (M (3 * j + 1)) (M (3 * j + 2)) (mapped_small kind span exps is_span p (3 * j + 1)) (mapped_small kind span exps is_span p (3 * j + 2)) in
    elim (cases_eq (i % 3) 0) [
      | inl e ↦ let same : 3 * j ≡ i = omega arith in mapped_zero groups i e ∙ ap (λ g. g / 25) at ∙ u.0 ∙ ap M same
      | inr ne ↦ elim (cases_eq (i % 3) 1) [
        | inl e ↦ let same : 3 * j + 1 ≡ i = omega arith in mapped_one groups i e ∙ ap (λ g. g / 5 % 5) at ∙ u.1 ∙ ap M same
        | inr ne1 ↦ let same : 3 * j + 2 ≡ i = omega arith in mapped_two groups i (omega arith) ∙ ap (λ g. g % 5) at ∙ u.2 ∙ ap M same
      ]
    ]

-- ---- the sums
pub sum_none : (lead : Lead) (s : Spelling) → sum_to lead s 0 ≡ reference lead s.first
unfolding sum_to
sum_none lead s = refl

pub sum_more : (lead : Lead) (s : Spelling) (n : ℕ) → sum_to lead s (n + 1) ≡ sum_to lead s n + mapped_of s.groups n
unfolding sum_to
sum_more lead s n = let e : n + 1 ≡ suc n = omega arith in rw e refl

pub sum_back : (kind : ℕ) (span : Span) (exps : List ℕ) → IsSpan span → IsPlaced kind span exps → (g : ℕ) → g ≤ last_step kind span → sum_to span.lead (spelled_of kind span exps) g ≡ at_step kind span exps g + 2 * g
sum_back kind span exps is_span p zero l = omega (arith, sum_none span.lead (spelled_of kind span exps), at_first kind span exps)
sum_back kind span exps is_span p (suc n) l =
    let e : n + 1 ≡ suc n = omega arith in
    let old = sum_back kind span exps is_span p n (omega arith) in
    let more = sum_more span.lead (spelled_of kind span exps) n in
    let m = mapped_back kind span exps is_span p (groups_of kind span) n (omega arith) in
    let near = near_steps kind span exps is_span p n in
    let P : ℕ → Type 0 = λ x. sum_to span.lead (spelled_of kind span exps) x ≡ at_step kind span exps x + 2 * x in
    subst P e (omega arith)

pub true_or_false : (c : Bool) → (c ≡ true) ⊎ (c ≡ false)
true_or_false true = inl refl
true_or_false false = inr refl

pub back : ExpandUndoesGroup
back kind span exps is_span is_kind can =
    let p = placed kind span exps is_span is_kind can in
    let s = spelled_of kind span exps in
    let n = groups_of kind span in
    let long = groups_long kind span exps n in (
      (λ place within refused.
          elim refused [
            | inl over ↦ let e = group_at kind span exps n place (omega arith) in let small = group_small kind span exps is_span p place in absurd (omega arith)
            | inr bad ↦
                let k = bad.0 in
                let at = p.walk.within k bad.1.0.0 bad.1.0.1 in
                let e = sum_back kind span exps is_span p (step_of kind span k) at in
                let small = at_small kind span exps is_span p (step_of kind span k) in
                elim bad.1.2 [ inl low ↦ absurd (omega arith) | inr high ↦ absurd (omega arith) ]
          ]),
      (λ k inside.
          let at = p.walk.within k inside.0 inside.1 in
          let e = sum_back kind span exps is_span p (step_of kind span k) at in
          elim (cases_eq (step_of kind span k) 0) [
            | inr ne ↦ let a = at_step_of kind span exps p k inside (omega arith) in omega arith
            | inl z ↦ elim (true_or_false (is_coupling span.lead)) [
              | inl joined ↦ let some = step_some kind span k p.one joined in absurd (omega arith)
              | inr free ↦
                  let o = origin span.lead span.start span.end kind (range span is_span) p.one free in
                  let c = p.can.constant k 0 inside (omega arith, omega arith) (omega arith) in
                  let a = (at_first_is kind span exps).1 free in
                  let a2 : at_step kind span exps (step_of kind span k) ≡ at_step kind span exps 0 = ap (at_step kind span exps) z in
                  omega arith
            ]
          ]),
    )
