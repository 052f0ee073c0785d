-- The floor, and the way down to it.
use Rattle.std.proofs.Common.{◌≡◌, ℕ, ◌+◌, ◌≤◌, List, subst, inl, inr, arith}
use Rattle.std.proofs.lemmas.Bool.{cases_eq, cases_lt}
use Rattle.ac_base.specs.declared.shapes.Shape.{Shape}
use Rattle.ac_cost.specs.Parts.{IsFeasible}
use Rattle.ac_bound.proofs.Offsets.{below_root}
use Rattle.ac_plan.specs.Uniform.{UniformFits, NoneUniform, IsFloor, FloorIsBelowRoot, FloorIsOne}
use Rattle.ac_plan.proofs.Uniforms.{assignment}

pub feasible : (shape : Shape) (raw : List (List (List ℕ))) (t : ℕ) → UniformFits shape raw t → IsFeasible shape raw t
feasible shape raw t u = record { assign = u.assign; is_assignment = assignment shape u.assign u.is_uniform; fits = u.fits }

pub floor_below : FloorIsBelowRoot
floor_below shape raw g r floor root = below_root shape raw r g root floor.within (feasible shape raw g floor.fits)

no_less : (shape : Shape) (raw : List (List (List ℕ))) (g h : ℕ) → IsFloor shape raw g → IsFloor shape raw h → h ≤ g
no_less shape raw g h a b =
    elim (cases_lt g h) [
      | inl less ↦ absurd (a.none_above h less b.within b.fits)
      | inr more ↦ more
    ]

pub floor_one : FloorIsOne
floor_one shape raw g h a b = omega (arith, no_less shape raw g h a b, no_less shape raw h g b a)

-- one offset more
pub none_down : (shape : Shape) (raw : List (List (List ℕ))) (t u top : ℕ) → u + 1 ≡ t → NoneUniform shape raw t top → (UniformFits shape raw t → ⊥) → NoneUniform shape raw u top
none_down shape raw t u top e above here s l m fits =
    elim (cases_eq s t) [
      | inl same ↦ here (subst (UniformFits shape raw) same fits)
      | inr other ↦ above s (omega arith) m fits
    ]
