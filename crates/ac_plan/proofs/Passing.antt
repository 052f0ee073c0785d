-- Offsets and assignments that are passed over.
use Rattle.std.proofs.Common.{◌≡◌, ℕ, ◌+◌, ◌<◌, Bool, true, false, not, IsTrue, List, ap, inl, inr, subst, arith}
use Rattle.std.specs.Prelude.{if◌then◌else◌}
use Rattle.std.proofs.lemmas.Bool.{cases_eq}
use Rattle.ac_base.specs.declared.shapes.Shape.{Shape}
use Rattle.ac_expo.specs.Raw.{channels}
use Rattle.ac_cost.specs.Runs.{IsAssignmentOf}
use Rattle.ac_cost.specs.Parts.{FitsAt, IsFeasible}
use Rattle.ac_cost.specs.Records.{AtOffset}
use Rattle.ac_cost.specs.Sixths.{assign_sixths}
use Rattle.ac_cost.proofs.Bounding.{within}
use Rattle.ac_bound.specs.Bounds.{IsOver}
use Rattle.ac_bound.proofs.Offsets.{fit-part}
use Rattle.ac_seek.specs.Words.{IsTreeSize}
use Rattle.ac_seek.proofs.Growing.{small}
use Rattle.ac_plan.specs.Best.{NoneFitsAbove}

pub false-not_true : false ≡ true → ⊥
false-not_true e = let count : Bool → ℕ = λ b. if b then 1 else 0 in let x = ap count e in omega (arith, x)

not_both : (b : Bool) → b ≡ true → IsTrue (not b) → ⊥
not_both true e h = false-not_true h
not_both false e h = false-not_true e

pub turned : (b : Bool) → b ≡ true → {X : Type 0} → IsTrue (not b) → X
turned b e h = absurd (not_both b e h)

-- what is over the room in sixths doesn't fit
pub over_unfit : (shape : Shape) (raw : List (List (List ℕ))) (t : ℕ) (assign : List (List ℕ)) → IsAssignmentOf shape assign → IsOver shape (λ part. assign_sixths shape raw t part assign) → FitsAt shape raw t assign → ⊥
over_unfit shape raw t assign is over fits =
    let w = within shape raw t over.part assign is in
    let f = fit-part shape raw t assign fits over.part over.is_part in
    let o = over.over in
    omega (arith, w, f, o)

-- one offset more
pub none_down : (shape : Shape) (raw : List (List (List ℕ))) (t u : ℕ) → u + 1 ≡ t → NoneFitsAbove shape raw t → (IsFeasible shape raw t → ⊥) → NoneFitsAbove shape raw u
none_down shape raw t u e above here s l m feasible =
    elim (cases_eq s t) [
      | inl same ↦ here (subst (IsFeasible shape raw) same feasible)
      | inr other ↦ above s (omega arith) m feasible
    ]

-- the tree of one coded channel isn't larger than 4096
pub never_spent : (v : AtOffset) → channels v.shape ≡ 1 → ((size : ℕ) × IsTreeSize v size × (4096 < size)) → ⊥
never_spent v one more = let s = small v more.0 one more.1 in let l = more.2 in omega (arith, s, l)
