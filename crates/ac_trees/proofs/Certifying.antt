-- What a plan says of the offsets, and the certificate that is made of it.
use Rattle.std.proofs.Common.{◌≡◌, ℕ, ◌+◌, ◌-◌, ◌<◌, ◌≤◌, true, false, List, length, Option, eqb, refl, sym, ap, inl, inr, subst, arith}
use Rattle.std.specs.Prelude.{◌==◌}
use Rattle.std.proofs.lemmas.Bool.{cases_lt, eq-eqb, ne_eqb}
use Rattle.ac_base.specs.declared.shapes.Shape.{Shape}
use Rattle.ac_expo.specs.declared.raws.RawExps.{RawExps}
use Rattle.ac_cost.specs.Parts.{IsFeasible, FitsAt}
use Rattle.ac_cost.specs.Runs.{IsAssignmentOf}
use Rattle.ac_bound.specs.declared.pots.Pots.{Pots}
use Rattle.ac_bound.specs.Roots.{IsRoot}
use Rattle.ac_bound.proofs.Offsets.{below_root}
use Rattle.ac_plan.specs.declared.answer.Mark.{Mark}
use Rattle.ac_plan.specs.declared.answer.Mark.TheVariants.{Best, Bounded}
use Rattle.ac_plan.specs.declared.answer.Plan.{Plan}
use Rattle.ac_plan.specs.Plans.{IsMarked, IsLawful, NoneFitsAbove}
use Rattle.ac_claim.specs.declared.certs.Cert.{Cert}
use Rattle.ac_claim.specs.declared.certs.Level.{Level}
use Rattle.ac_trees.specs.Made.{AreInRange, AreLevels, AreAbove, upper_by, upper_of, mark_of, plan_of, IsCertificate}
use Rattle.ac_trees.proofs.Passing.{passes}

-- there is one root offset
root-least : (shape : Shape) (raw : List (List (List ℕ))) (r s : ℕ) → IsRoot shape raw r → IsRoot shape raw s → r ≤ s
root-least shape raw r s a b = elim (cases_lt s r) [
  | inl above ↦ absurd (a.is_open (b.above r above a.within))
  | inr low ↦ low
]

module _ (shape : Shape) (raw : List (List (List ℕ))) (nodes : ℕ) where
  order : (offset : ℕ) (mark : Mark) → IsMarked shape raw nodes offset mark → offset ≤ upper_by offset mark
  order offset Best is = omega arith
  order offset (Bounded upper) is = let l = is.below in omega (arith, l)

  none : (offset : ℕ) (mark : Mark) → IsMarked shape raw nodes offset mark → NoneFitsAbove shape raw (upper_by offset mark)
  none offset Best is = is.none_above
  none offset (Bounded upper) is = is.none_above

  reached : (offset top : ℕ) (mark : Mark) → offset ≤ 1023 → IsMarked shape raw nodes offset mark → IsRoot shape raw top → upper_by offset mark ≤ top
  reached offset top Best low is root = below_root shape raw top offset root low is.feasible
  reached offset top (Bounded upper) low is root =
      let l = root-least shape raw is.root top is.is_root root in let m = is.within in omega (arith, l, m)

  marked : (offset : ℕ) (mark : Mark) → IsMarked shape raw nodes offset mark → IsMarked shape raw nodes offset (mark_of offset (upper_by offset mark))
  marked offset Best is = let e : (offset == offset) ≡ true = eq-eqb offset offset refl in rw e is
  marked offset (Bounded upper) is =
      let l = is.below in
      let e : (offset == upper) ≡ false = ne_eqb offset upper (λ h. omega (arith, h, l)) in rw e is

  module _ (plan : Plan) (lawful : IsLawful shape raw nodes plan) where
    pub plan-order : plan.offset ≤ upper_of plan
    plan-order = order plan.offset plan.mark lawful.marked

    pub plan-none : NoneFitsAbove shape raw (upper_of plan)
    plan-none = none plan.offset plan.mark lawful.marked

    pub plan-reached : (top : ℕ) → IsRoot shape raw top → upper_of plan ≤ top
    plan-reached top root = reached plan.offset top plan.mark lawful.within lawful.marked root

    pub plan-lawful : IsLawful shape raw nodes (record { offset = plan.offset; assign = plan.assign; mark = mark_of plan.offset (upper_of plan) })
    plan-lawful = record {
      within = lawful.within;
      is_assignment = lawful.is_assignment;
      fits = lawful.fits;
      marked = marked plan.offset plan.mark lawful.marked;
    }

-- the parts of a certificate make one
pub certified : (shape : Shape) (raw : RawExps) (nodes : ℕ) (plan : Plan) (top upper : ℕ) (over : Option Pots) (trees : List Level) → IsLawful shape raw.e nodes plan → AreInRange shape raw.e → upper ≡ upper_of plan → IsRoot shape raw.e top → AreAbove shape raw.e top over → AreLevels shape raw.e top trees → length trees ≡ top - upper → IsCertificate shape raw nodes (record { shape = shape; raw = raw; offset = plan.offset; upper = upper; assign = plan.assign; top = top; over = over; trees = trees })
certified shape raw nodes plan top upper over trees lawful range e root above levels count =
    let made : Cert = record { shape = shape; raw = raw; offset = plan.offset; upper = upper; assign = plan.assign; top = top; over = over; trees = trees } in
    let low : plan.offset ≤ upper = omega (arith, e, plan-order shape raw.e nodes plan lawful) in
    let high : upper ≤ top = omega (arith, e, plan-reached shape raw.e nodes plan lawful top root) in
    record {
      same_shape = refl;
      same_raw = refl;
      lawful = subst (λ u. IsLawful shape raw.e nodes (record { offset = plan.offset; assign = plan.assign; mark = mark_of plan.offset u })) (sym e) (plan-lawful shape raw.e nodes plan lawful);
      root = root;
      above = above;
      levels = levels;
      passes = passes made range lawful.is_assignment lawful.fits low high root above levels count;
    }
