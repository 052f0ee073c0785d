-- The steps of exponents, by bins.
use Rattle.std.proofs.Common.{◌≡◌, ◌∙◌, ℕ, zero, suc, ◌+◌, ◌*◌, ◌-◌, ◌/◌, ◌<◌, ◌≤◌, List, slice_index, true, false, arith, ap, sym}
use Rattle.std.specs.Prelude.{if◌then◌else◌, ◌==◌}
use Rattle.ac_base.specs.declared.spans.Span.{Span}
use Rattle.ac_base.specs.declared.spans.Lead.{Lead}
use Rattle.ac_base.specs.declared.spans.Lead.TheVariants.{Free, Coupled, Coupling, Low}
use Rattle.ac_base.specs.Shape.{IsSpan, IsSpanOf}
use Rattle.ac_base.specs.Spans.{IsIn, IsKind, greatest_kind}
use Rattle.ac_base.specs.Spans.{width}
use Rattle.ac_expo.specs.Steps.{ahead, step_of}
use Rattle.ac_sixths.specs.Runs.{AreShared, StepsAreShared, level_of}

-- a channel from bin 0 on
free_steps : (w start j k : ℕ) → 0 < w → start ≡ 0 → (j + w - 1) / w ≡ (k + w - 1) / w → (j - start + (w - 1)) / w ≡ (k - start + (w - 1)) / w
free_steps w start j k some none same =
    let e : j - start + (w - 1) ≡ j + w - 1 = omega arith in
    let g : k - start + (w - 1) ≡ k + w - 1 = omega arith in
    ap (λ v. v / w) e ∙ same ∙ sym (ap (λ v. v / w) g)

-- the coupling channel, whose step 1 is at the start
steps_1 : (c start j k : ℕ) → start ≡ 37 + 12 * c → start ≤ j → start ≤ k → (j + 1 - 1) / 1 ≡ (k + 1 - 1) / 1 → (j - start + 1) / 1 ≡ (k - start + 1) / 1
steps_1 c start j k e l m same = omega arith

steps_2 : (c start j k : ℕ) → start ≡ 37 + 12 * c → start ≤ j → start ≤ k → (j + 2 - 1) / 2 ≡ (k + 2 - 1) / 2 → (j - start + 2) / 2 ≡ (k - start + 2) / 2
steps_2 c start j k e l m same = omega arith

steps_4 : (c start j k : ℕ) → start ≡ 37 + 12 * c → start ≤ j → start ≤ k → (j + 4 - 1) / 4 ≡ (k + 4 - 1) / 4 → (j - start + 4) / 4 ≡ (k - start + 4) / 4
steps_4 c start j k e l m same = omega arith

coupling_steps : (kind c start j k : ℕ) → 1 ≤ kind → kind ≤ 3 → start ≡ 37 + 12 * c → start ≤ j → start ≤ k → (j + width kind - 1) / width kind ≡ (k + width kind - 1) / width kind → (j - start + width kind) / width kind ≡ (k - start + width kind) / width kind
coupling_steps zero c start j k lo hi e l m same = absurd (omega arith)
coupling_steps (suc zero) c start j k lo hi e l m same = steps_1 c start j k e l m same
coupling_steps (suc (suc zero)) c start j k lo hi e l m same = steps_2 c start j k e l m same
coupling_steps (suc (suc (suc zero))) c start j k lo hi e l m same = steps_4 c start j k e l m same
coupling_steps (suc (suc (suc (suc n)))) c start j k lo hi e l m same = absurd (omega arith)

width_some : (kind : ℕ) → 0 < width kind
width_some kind = elim (kind == 1) as (λ b. 0 < (if b then 1 else (if kind == 2 then 2 else 4))) [
  | true ↦ omega arith
  | false ↦ elim (kind == 2) as (λ b. 0 < (if b then 2 else 4)) [ true ↦ omega arith | false ↦ omega arith ]
]

by_lead : (lead : Lead) (kind start end j k : ℕ) → IsSpanOf lead start end → 1 ≤ kind → kind ≤ greatest_kind lead → start ≤ j → start ≤ k → (j + width kind - 1) / width kind ≡ (k + width kind - 1) / width kind → (j - start + ahead kind lead) / width kind ≡ (k - start + ahead kind lead) / width kind
by_lead Free kind start end j k span lo hi l m same = free_steps (width kind) start j k (width_some kind) span.0 same
by_lead Coupled kind start end j k span lo hi l m same = free_steps (width kind) start j k (width_some kind) span.0 same
by_lead Coupling kind start end j k (c, d, p, q, r, e, u) lo hi l m same = coupling_steps kind c start j k lo hi e l m same
by_lead Low kind start end j k span lo hi l m same = free_steps (width kind) start j k (width_some kind) span.0 same

pub steps_are_shared : StepsAreShared
unfolding step_of
steps_are_shared kind s xs span is each j k lj hj lk hk same =
    each j k (lj, hj) (lk, hk) (by_lead s.lead kind s.start s.end j k span is.0 is.1 lj lk same)

-- the levels of exponents that are equal in each step
pub levels_shared : (kind : ℕ) (s : Span) (exps levels : List ℕ) → IsSpan s → IsKind kind s → ((j k : ℕ) → IsIn s j → IsIn s k → step_of kind s j ≡ step_of kind s k → slice_index exps j ≡ slice_index exps k) → ((k : ℕ) → s.start ≤ k → k < s.end → slice_index levels k ≡ level_of (slice_index exps k)) → AreShared (width kind) s.start s.end levels
levels_shared kind s exps levels span is each are j k lj hj lk hk same =
    are j lj hj ∙ ap level_of (steps_are_shared kind s exps span is each j k lj hj lk hk same) ∙ sym (are k lk hk)
