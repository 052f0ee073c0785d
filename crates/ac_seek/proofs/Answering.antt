-- What the search finds is an answer.
use Rattle.std.proofs.Common.{◌≡◌, ℕ, ◌+◌, List, [], ◌∷◌, slice_index, sym, refl, subst, arith}
use Rattle.ac_cost.specs.Records.{AtOffset}
use Rattle.ac_bound.specs.Bounds.{nothing}
use Rattle.ac_bound.specs.Ways.{ArePots}
use Rattle.ac_bound.proofs.Offsets.{pots-exist}
use Rattle.ac_bound.proofs.Onward.{least_value}
use Rattle.ac_bound.proofs.Threes.{of_three}
use Rattle.ac_seek.specs.declared.step.Step.{Step}
use Rattle.ac_seek.specs.declared.answer.Seek.{Seek}
use Rattle.ac_seek.specs.declared.answer.Seek.TheVariants.{Fits, Never, Spent}
use Rattle.ac_seek.specs.Answers.{Answers}
use Rattle.ac_seek.specs.Games.{Game}
use Rattle.ac_seek.specs.Trees.{tree_size}
use Rattle.ac_seek.specs.Walks.{Holds, owed, IsFound}
use Rattle.ac_seek.specs.Words.{game_of}
use Rattle.ac_seek.proofs.Paths.{Holds-none}
use Rattle.ac_seek.proofs.Roots.{none-feasible}

pub answered : (v : AtOffset) (pot : ℕ → ℕ → ℕ → ℕ) (nodes : ℕ) (found : Seek) → ArePots v pot → IsFound v nodes found → Answers v nodes found
answered v pot nodes (Fits a) are is = is
answered v pot nodes (Never used) are is =
    (none-feasible v is.0, record { pot = pot; are = are; nodes = sym (is.1 pot are) }, is.2)
answered v pot nodes Spent are is = (tree_size (game_of v) pot [], record { pot = pot; are = are; nodes = refl }, is pot are)

-- there are potentials
pub some-pots : (v : AtOffset) → (pot : ℕ → ℕ → ℕ → ℕ) × ArePots v pot
some-pots v = (λ c part at. least_value v c part 6 at, pots-exist v.shape v.raw v.t)

-- before the first look
pub owed-start : (g : Game) (pot : ℕ → ℕ → ℕ → ℕ) (path : List Step) → path ≡ [] → 0 + owed g pot path ≡ tree_size g pot []
owed-start g pot path e =
    subst (λ (p : List Step). 0 + owed g pot p ≡ tree_size g pot []) (sym e) (omega arith)

pub holds-start : (g : Game) (path : List Step) → path ≡ [] → Holds g path nothing
holds-start g path e =
    subst (λ (p : List Step). Holds g p nothing) (sym e)
    (Holds-none g nothing refl refl (λ part p. of_three (λ q. slice_index (0 ∷ 0 ∷ 0 ∷ []) q ≡ 0) refl refl refl part p))
