-- What an assignment of strategies costs at an SNR offset, and at which offsets one fits. The parts and their rooms, and that the
-- choice is among all assignments, are this project's own; what is counted is A/52 5.3.
use Rattle.std.specs.Prelude.{ℕ, Bool, false, if◌then◌else◌, List, [], ◌∷◌, ◌++◌, replicate, Option}
use Rattle.ac_base.specs.declared.shapes.Shape.{Shape}
use Rattle.ac_base.specs.declared.sizes.Parts.{Parts}
use Rattle.ac_base.specs.Fit.{parts_of, FitIn}
use Rattle.ac_base.specs.Shape.{coded_of}
use Rattle.ac_cost.specs.Runs.{IsAssignmentOf}
use Rattle.ac_cost.specs.Pointers.{pointers}

-- the bits of the three parts
abbrev pub parts_at : Shape → List (List (List ℕ)) → ℕ → List (List ℕ) → Parts
parts_at shape raw t assign = parts_of shape.acmod shape.lfe shape.bw shape.couple assign (pointers shape raw t assign)

-- the assignment fits
abbrev pub FitsAt : Shape → List (List (List ℕ)) → ℕ → List (List ℕ) → Type 0
FitsAt shape raw t assign = FitIn shape.words (parts_at shape raw t assign)

-- some assignment fits
pub record IsFeasible (shape : Shape) (raw : List (List (List ℕ))) (t : ℕ) : Type 0 where
  pub assign : List (List ℕ)
  pub is_assignment : IsAssignmentOf shape assign
  pub fits : FitsAt shape raw t assign

-- D45 in block 0 and reuse after it; LFE has D15 in block 0
abbrev pub cheapest_words : ℕ → Bool → Option (ℕ × ℕ) → List (List ℕ)
cheapest_words acmod lfe couple =
    replicate (coded_of acmod false couple) (3 ∷ 0 ∷ 0 ∷ 0 ∷ 0 ∷ 0 ∷ []) ++ (if lfe then (1 ∷ 0 ∷ 0 ∷ 0 ∷ 0 ∷ 0 ∷ []) ∷ [] else [])

abbrev pub cheapest_assign : Shape → List (List ℕ)
cheapest_assign shape = cheapest_words shape.acmod shape.lfe shape.couple
