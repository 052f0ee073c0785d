-- The text of a tree: this project's own. Each item has a space before it.
use Rattle.std.specs.Prelude.{◌≡◌, ℕ, ◌-◌, ◌==◌, ◌&&◌, not, nat_lt, Bool, true, false, if◌then◌else◌, List, [], ◌∷◌, ◌++◌, length, Option, Some, None, Result, Ok, Err}
use Rattle.std.specs.List.{list_all}
use Rattle.ac_base.specs.declared.sizes.Part.{Part}
use Rattle.ac_base.specs.declared.sizes.Part.TheVariants.{Front, Total, Last}
use Rattle.ac_claim.specs.declared.tree.Tree.{Tree}
use Rattle.ac_claim.specs.declared.tree.Tree.TheVariants as variant
use Rattle.ac_claim.specs.declared.tree.Tree.TheOpen.{Tree-F, Closed, Full, Split}
use Rattle.ac_claim.specs.declared.tree.Tree.TheFolds.{fold-Tree}
use Rattle.ac_cert_text.specs.declared.fault.Fault.{Fault}
use Rattle.ac_cert_text.specs.declared.fault.Fault.TheVariants.{Bad, Deep, NoMemory}
use Rattle.ac_cert_text.specs.Codec.{Codec, Outcome}

-- `f`, `t` and `l` for a node closed by a part
abbrev pub closed_letter : Part → ℕ
closed_letter Front = 102
closed_letter Total = 116
closed_letter Last = 108

-- `F`, `T` and `L` for a full one
abbrev pub full_letter : Part → ℕ
full_letter Front = 70
full_letter Total = 84
full_letter Last = 76

-- the texts one behind the other
abbrev pub joined : List (List ℕ) → List ℕ
joined [] = []
joined (text ∷ texts) = text ++ joined texts

-- a node, whose children are given by their texts: a split's stand in brackets
abbrev pub node_text : Tree-F (List ℕ) → List ℕ
node_text (Closed part) = 32 ∷ closed_letter part ∷ []
node_text (Full part) = 32 ∷ full_letter part ∷ []
node_text (Split texts) = 32 ∷ 40 ∷ (joined texts ++ 32 ∷ 41 ∷ [])

unfoldable pub tree_text : Tree → List ℕ
tree_text tree = fold-Tree (List ℕ) node_text tree

abbrev pub is_empty : {A : Type 0} → List A → Bool
is_empty [] = true
is_empty (x ∷ xs) = false

-- whether a node, whose children are given by the same test, has no empty split and so many brackets open at once at most
abbrev pub node_fits : Tree-F (ℕ → Bool) → ℕ → Bool
node_fits (Closed part) room = true
node_fits (Full part) room = true
node_fits (Split children) room = nat_lt 0 room && not (is_empty children) && list_all (λ fits. fits (room - 1)) children

unfoldable pub tree_fits : Tree → ℕ → Bool
tree_fits tree = fold-Tree (ℕ → Bool) node_fits tree

-- ---- reading: each open bracket has the trees that were read behind it, the last opened first

abbrev pub leaf_of : ℕ → Option Tree
leaf_of b =
    if b == 102 then Some (variant.Closed Front)
    else if b == 116 then Some (variant.Closed Total)
    else if b == 108 then Some (variant.Closed Last)
    else if b == 70 then Some (variant.Full Front)
    else if b == 84 then Some (variant.Full Total)
    else if b == 76 then Some (variant.Full Last)
    else None

-- the whole tree, or the open brackets
abbrev pub Grown : Type 0
Grown = Option Tree × List (List Tree)

-- a tree is whole: it belongs to the last open bracket
abbrev pub put : Tree → List (List Tree) → Grown
put tree [] = (Some tree, [])
put tree (trees ∷ open_) = (None, (trees ++ tree ∷ []) ∷ open_)

abbrev pub put_some : Option Tree → List (List Tree) → Result Grown Fault
put_some None open_ = Err Bad
put_some (Some tree) open_ = Ok (put tree open_)

-- a bracket is closed, which isn't empty
abbrev pub close : List (List Tree) → Result Grown Fault
close [] = Err Bad
close ([] ∷ open_) = Err Bad
close ((tree ∷ trees) ∷ open_) = Ok (put (variant.Split (tree ∷ trees)) open_)

-- one item
abbrev pub item : ℕ → List (List Tree) → Result Grown Fault
item b open_ =
    if b == 40
    then (if nat_lt (length open_) 42 then Ok (None, [] ∷ open_) else Err Deep)
    else if b == 41
    then close open_
    else put_some (leaf_of b) open_

-- what a call answers, and the brackets that it leaves open, are those of a step, unless memory was wanting
abbrev pub FailsStep : Fault → Result Grown Fault → Type 0
FailsStep Bad step = step ≡ Err Bad
FailsStep Deep step = step ≡ Err Deep
FailsStep NoMemory step = Unit {0}

abbrev pub Steps : Result (Option Tree) Fault → List (List Tree) → Result Grown Fault → Type 0
Steps (Ok done) open_ step = step ≡ Ok (done, open_)
Steps (Err e) open_ step = FailsStep e step

-- the items up to the one that ends the tree
unfoldable pub grow : List (List Tree) → List ℕ → Outcome Tree
grow open_ [] = Err (Bad, [])
grow open_ (s ∷ []) = Err (Bad, s ∷ [])
grow open_ (s ∷ b ∷ l) =
    if s == 32
    then elim (item b open_) [
      | Err e ↦ Err (e, s ∷ b ∷ l)
      | Ok g ↦ elim (g.0) [
        | Some tree ↦ Ok (tree, l)
        | None ↦ grow g.1 l
      ]
    ]
    else Err (Bad, s ∷ b ∷ l)

-- a tree with no empty split and at most 42 brackets open at once
unfoldable pub tree : Codec Tree
tree = record {
  spell = tree_text;
  Lawful = λ t. tree_fits t 42 ≡ true;
  read = grow [];
}
