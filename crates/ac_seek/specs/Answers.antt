-- What a search of one offset may answer.
use Rattle.std.specs.Prelude.{ℕ, ◌<◌, ◌≤◌}
use Rattle.ac_cost.specs.Parts.{FitsAt, IsFeasible}
use Rattle.ac_cost.specs.Records.{AtOffset}
use Rattle.ac_cost.specs.Runs.{IsAssignmentOf}
use Rattle.ac_seek.specs.declared.answer.Seek.{Seek}
use Rattle.ac_seek.specs.declared.answer.Seek.TheVariants.{Fits, Never, Spent}
use Rattle.ac_seek.specs.Words.{IsTreeSize}

-- an assignment that fits; that none does, and the tree is as large as it says; or that the tree is larger than the budget
abbrev pub Answers : AtOffset → ℕ → Seek → Type 0
Answers v nodes (Fits a) = IsAssignmentOf v.shape a.w × FitsAt v.shape v.raw v.t a.w
Answers v nodes (Never used) = (IsFeasible v.shape v.raw v.t → ⊥) × IsTreeSize v used × (used ≤ nodes)
Answers v nodes Spent = (size : ℕ) × IsTreeSize v size × (nodes < size)
