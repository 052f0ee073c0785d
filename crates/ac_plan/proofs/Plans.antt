-- Plans by budgets.
use Rattle.std.proofs.Common.{◌≡◌, ℕ, zero, suc, ◌+◌, ◌-◌, ◌<◌, ◌≤◌, List, sym, ap, subst, inl, inr, arith}
use Rattle.std.proofs.lemmas.Bool.{cases_lt}
use Rattle.ac_base.specs.declared.shapes.Shape.{Shape}
use Rattle.ac_base.proofs.ByRuns.{sum_more, sum_none}
use Rattle.ac_expo.specs.Raw.{channels}
use Rattle.ac_cost.specs.Parts.{FitsAt}
use Rattle.ac_cost.specs.Records.{at_offset}
use Rattle.ac_cost.specs.Runs.{IsAssignmentOf}
use Rattle.ac_bound.specs.Roots.{IsRoot}
use Rattle.ac_seek.specs.Words.{IsTreeSize}
use Rattle.ac_seek.proofs.Ones.{one-size}
use Rattle.ac_seek.proofs.Truths.{size-exists}
use Rattle.ac_plan.specs.declared.answer.Plan.{Plan}
use Rattle.ac_plan.specs.declared.answer.Mark.{Mark}
use Rattle.ac_plan.specs.declared.answer.Mark.TheVariants.{Best, Bounded}
use Rattle.ac_plan.specs.declared.window.Held.{Held}
use Rattle.ac_plan.specs.Helds.{IsHeld}
use Rattle.ac_plan.specs.Uniform.{UniformFits, NoneUniform, IsFloor}
use Rattle.ac_plan.specs.Plans.{NoneFitsAbove, IsBest, nodes_from, AreOver, IsCutShort, IsMarked, IsLawful, IsMarkedAt, IsUniformPlan}
use Rattle.ac_plan.proofs.Floors.{feasible}
use Rattle.ac_plan.proofs.Uniforms.{assignment}

-- ---- sizes
-- one for each offset
abbrev pub AreSizes : Shape → List (List (List ℕ)) → (ℕ → ℕ) → Type 0
AreSizes shape raw size = (t : ℕ) → IsTreeSize (at_offset shape raw t) (size t)

-- the first of a sum
pub first_of : (size : ℕ → ℕ) (u n : ℕ) → nodes_from size u (suc n) ≡ size u + nodes_from size (u + 1) n
first_of size u zero =
    let e : u + 0 ≡ u = omega arith in
    let x = ap size e in
    omega (arith, x, sum_more 0 (λ i. size (u + i)), sum_none (λ i. size (u + i)), sum_none (λ i. size (u + 1 + i)))
first_of size u (suc n) =
    let e : u + suc n ≡ u + 1 + n = omega arith in
    let x = ap size e in
    omega (arith, x, first_of size u n, sum_more (suc n) (λ i. size (u + i)), sum_more n (λ i. size (u + 1 + i)))

-- what is spent above an offset
abbrev pub IsSpent : Shape → List (List (List ℕ)) → ℕ → ℕ → ℕ → ℕ → Type 0
IsSpent shape raw nodes r t left =
    (size : ℕ → ℕ) → AreSizes shape raw size → left + nodes_from size (t + 1) (r - t) ≡ nodes

pub spent_down : (shape : Shape) (raw : List (List (List ℕ))) (nodes r t u left used : ℕ) → u + 1 ≡ t → t ≤ r → used ≤ left → IsTreeSize (at_offset shape raw t) used → IsSpent shape raw nodes r t left → IsSpent shape raw nodes r u (left - used)
spent_down shape raw nodes r t u left used e l few is spent size are =
    let n : r - u ≡ suc (r - t) = omega arith in
    let same : used ≡ size t = one-size (at_offset shape raw t) used (size t) is (are t) in
    let from = ap (λ k. nodes_from size k (r - u)) e in
    let count = ap (nodes_from size t) n in
    omega (arith, same, from, count, first_of size t (r - t), spent size are)

pub spent_none : (shape : Shape) (raw : List (List (List ℕ))) (nodes r : ℕ) → IsSpent shape raw nodes r r nodes
spent_none shape raw nodes r size are =
    let e : r - r ≡ 0 = omega arith in
    let x = ap (nodes_from size (r + 1)) e in
    omega (arith, x, sum_none (λ i. size (r + 1 + i)))

-- the tree of the offset is larger than what is left
pub over : (shape : Shape) (raw : List (List (List ℕ))) (nodes r t left n : ℕ) → t ≤ r → IsTreeSize (at_offset shape raw t) n → left < n → IsSpent shape raw nodes r t left → AreOver shape raw nodes t r
over shape raw nodes r t left n l is more spent =
    let size : ℕ → ℕ = λ s. (size-exists (at_offset shape raw s)).0 in
    let are : AreSizes shape raw size = λ s. (size-exists (at_offset shape raw s)).1 in
    let same : n ≡ size t = one-size (at_offset shape raw t) n (size t) is (are t) in
    let e : r + 1 - t ≡ suc (r - t) = omega arith in
    let x = ap (nodes_from size t) e in
    record {
      size = size;
      sizes = λ s low high. are s;
      over = omega (arith, more, same, x, first_of size t (r - t), spent size are);
    }

-- ---- windows
-- what is held for an offset serves lower ones
pub held_down : (shape : Shape) (raw : List (List (List ℕ))) (t u : ℕ) (held : Held) → u ≤ t → IsHeld shape raw t held → IsHeld shape raw u held
held_down shape raw t u held l is = record { first = is.first; window = is.window; ways = is.ways; reach = omega (arith, l, is.reach) }

-- ---- plans
pub best_lawful : (shape : Shape) (raw : List (List (List ℕ))) (nodes t : ℕ) (plan : Plan) (assign : List (List ℕ)) → t ≤ 1023 → IsAssignmentOf shape assign → FitsAt shape raw t assign → NoneFitsAbove shape raw t → plan.offset ≡ t → plan.assign.w ≡ assign → plan.mark ≡ Best → IsLawful shape raw nodes plan
best_lawful shape raw nodes t plan assign low is fits above offset words mark =
    let best : IsBest shape raw t = record { feasible = record { assign = assign; is_assignment = is; fits = fits }; none_above = above } in
    record {
      within = omega (arith, low, offset);
      is_assignment = subst (IsAssignmentOf shape) (sym words) is;
      fits = subst (λ s. FitsAt shape raw s plan.assign.w) (sym offset) (subst (FitsAt shape raw t) (sym words) fits);
      marked = subst (IsMarked shape raw nodes plan.offset) (sym mark) (subst (IsBest shape raw) (sym offset) best);
    }

module _ (shape : Shape) (raw : List (List (List ℕ))) (nodes r t : ℕ) (several : 2 ≤ channels shape) (root : IsRoot shape raw r) (within : t ≤ r) (above : NoneFitsAbove shape raw t) where
  -- the offset is the floor, where no uniform assignment fits up to t
  floor_here : (s : ℕ) → s ≤ t → UniformFits shape raw s → NoneUniform shape raw s t → IsFloor shape raw s
  floor_here s low fits between = record {
    within = omega (arith, root.within);
    fits = fits;
    none_above = λ u l m uniform. elim (cases_lt t u) [
      | inl more ↦ above u more m (feasible shape raw u uniform)
      | inr less ↦ between u l less uniform
    ];
  }

  marked_within : (s : ℕ) (mark : Mark) → s ≤ t → UniformFits shape raw s → NoneUniform shape raw s t → (s < t → AreOver shape raw nodes t r) → IsMarkedAt t s mark → IsMarked shape raw nodes s mark
  marked_within s Best low fits between more marked =
      record { feasible = feasible shape raw s fits; none_above = subst (NoneFitsAbove shape raw) (sym marked) above }
  marked_within s (Bounded upper) low fits between more marked =
      let cut : IsCutShort shape raw nodes s t = record {
        several = several;
        floor = s;
        root = r;
        is_floor = floor_here s low fits between;
        is_root = root;
        least = omega arith;
        below = marked.1;
        within = within;
        none_above = above;
        spent = more marked.1;
      } in
      subst (IsCutShort shape raw nodes s) (sym marked.0) cut

  pub uniform_lawful : (plan : Plan) → (plan.offset < t → AreOver shape raw nodes t r) → IsUniformPlan shape raw t plan → IsLawful shape raw nodes plan
  uniform_lawful plan more is =
      let fits : UniformFits shape raw plan.offset = record { assign = plan.assign.w; is_uniform = is.is_uniform; fits = is.fits } in
      record {
        within = omega (arith, is.within, within, root.within);
        is_assignment = assignment shape plan.assign.w is.is_uniform;
        fits = is.fits;
        marked = marked_within plan.offset plan.mark is.within fits is.none_between more is.marked;
      }
