-- Tests of a tree at a partial assignment: this project's own. A partial assignment is the list of its runs, latest first.
use Rattle.std.specs.Prelude.{ℕ, ◌-◌, ◌*◌, ◌^◌, ◌==◌, min, nat_lt, if◌then◌else◌, List, [], ◌∷◌, length, Option, Some, None}
use Rattle.ac_base.specs.declared.sizes.Part.{Part}
use Rattle.ac_cost.specs.Parts.{parts_at}
use Rattle.ac_cost.specs.Records.{AtOffset}
use Rattle.ac_cost.specs.Sixths.{part_of}
use Rattle.ac_bound.specs.Steps.{kinds_of}
use Rattle.ac_seek.specs.declared.step.Step.{Step}
use Rattle.ac_seek.specs.Games.{channel_of, boundary_of}
use Rattle.ac_seek.specs.Trees.{next_steps, lower, over, whole}
use Rattle.ac_seek.specs.Words.{game_of, words_of}
use Rattle.ac_claim.specs.declared.no.No.{No}
use Rattle.ac_claim.specs.declared.no.No.TheVariants.{Loose, Children}
use Rattle.ac_claim.specs.declared.tree.Tree.{Tree}
use Rattle.ac_claim.specs.declared.tree.Tree.TheOpen.{Tree-F, Closed, Full, Split}
use Rattle.ac_claim.specs.declared.tree.Tree.TheFolds.{fold-Tree}
use Rattle.ac_claim.specs.Potentials.{or_else, number_of}

-- a count as a fault gives it: one that 32 bits don't hold is given as the greatest number that they hold
abbrev pub given : ℕ → ℕ
given n = min n (2 ^ 32 - 1)

-- the runs that may come next
abbrev pub nexts : AtOffset → List Step → List Step
nexts v path = next_steps (kinds_of v.shape) (channel_of path) (boundary_of path)

-- closed by a part: its lower bound is over the room
abbrev pub closed_no : AtOffset → (ℕ → ℕ → ℕ → ℕ) → Part → List Step → Option No
closed_no v pot part path =
    let g = game_of v in
    if over g pot (number_of part) path
    then None
    else Some (Loose v.t part (lower g pot (number_of part) path) (g.room (number_of part)))

-- the exact bits of a whole assignment in a part, in sixths
abbrev pub exact_sixths : AtOffset → Part → List Step → ℕ
exact_sixths v part path = 6 * part_of (parts_at v.shape v.raw v.t (words_of path)) (number_of part)

-- whole, and in a part the exact bits are over the room
abbrev pub full_no : AtOffset → Part → List Step → Option No
full_no v part path =
    if whole (game_of v) path
    then (if nat_lt ((game_of v).room (number_of part)) (exact_sixths v part path)
    then None
    else Some (Loose v.t part (exact_sixths v part path) ((game_of v).room (number_of part))))
    else Some (Children v.t 0 (length (nexts v path)))

-- each child at its run, the first fault first: a child is given by its fault at each partial assignment
abbrev pub children_no : List (List Step → Option No) → List Step → List Step → Option No
children_no [] steps path = None
children_no (child ∷ children) [] path = None
children_no (child ∷ children) (s ∷ steps) path = or_else (child (s ∷ path)) (children_no children steps path)

-- there are not as many children as runs may come next: none may where the partial assignment is whole
abbrev pub count_no : AtOffset → ℕ → List Step → Option No
count_no v count path =
    if whole (game_of v) path
    then Some (Children v.t (given count) 0)
    else if count == length (nexts v path)
    then None
    else Some (Children v.t (given count) (length (nexts v path)))

-- split: a child for each run that may come next, and no fault in any
abbrev pub split_no : AtOffset → List (List Step → Option No) → List Step → Option No
split_no v children path = or_else (count_no v (length children) path) (children_no children (nexts v path) path)

-- a node, whose children are given by their faults
abbrev pub node_no : AtOffset → (ℕ → ℕ → ℕ → ℕ) → Tree-F (List Step → Option No) → List Step → Option No
node_no v pot (Closed part) path = closed_no v pot part path
node_no v pot (Full part) path = full_no v part path
node_no v pot (Split children) path = split_no v children path

-- the first fault of a tree in preorder
abbrev pub tree_no : AtOffset → (ℕ → ℕ → ℕ → ℕ) → Tree → List Step → Option No
tree_no v pot tree = fold-Tree (List Step → Option No) (node_no v pot) tree
