-- The faults of a tree by its root.
use Rattle.std.proofs.Common.{◌≡◌, ℕ, List, map, Option, sym, ap, ◌∙◌}
use Rattle.ac_base.specs.declared.sizes.Part.{Part}
use Rattle.ac_cost.specs.Records.{AtOffset}
use Rattle.ac_seek.specs.declared.step.Step.{Step}
use Rattle.ac_claim.specs.declared.no.No.{No}
use Rattle.ac_claim.specs.declared.tree.Tree.{Tree}
use Rattle.ac_claim.specs.declared.tree.Tree.TheVariants as variant
use Rattle.ac_claim.specs.declared.tree.Tree.TheOpen.{Closed, Full, Split}
use Rattle.ac_claim.specs.declared.tree.Tree.TheFolds.{fold-roll-Tree}
use Rattle.ac_claim.specs.Trees.{closed_no, full_no, split_no, node_no, tree_no}

-- faults at each partial assignment
abbrev pub Faults : Type 0
Faults = List Step → Option No

pub of-closed : (v : AtOffset) (pot : ℕ → ℕ → ℕ → ℕ) (part : Part) (path : List Step) → tree_no v pot (variant.Closed part) path ≡ closed_no v pot part path
of-closed v pot part path =
    ap (λ (t : Tree). tree_no v pot t path) (sym (variant.rolls-Closed part)) ∙ ap (λ (f : Faults). f path) (fold-roll-Tree Faults (node_no v pot) (Closed part))

pub of-full : (v : AtOffset) (pot : ℕ → ℕ → ℕ → ℕ) (part : Part) (path : List Step) → tree_no v pot (variant.Full part) path ≡ full_no v part path
of-full v pot part path =
    ap (λ (t : Tree). tree_no v pot t path) (sym (variant.rolls-Full part)) ∙ ap (λ (f : Faults). f path) (fold-roll-Tree Faults (node_no v pot) (Full part))

pub of-split : (v : AtOffset) (pot : ℕ → ℕ → ℕ → ℕ) (trees : List Tree) (path : List Step) → tree_no v pot (variant.Split trees) path ≡ split_no v (map (tree_no v pot) trees) path
of-split v pot trees path =
    ap (λ (t : Tree). tree_no v pot t path) (sym (variant.rolls-Split trees)) ∙ ap (λ (f : Faults). f path) (fold-roll-Tree Faults (node_no v pot) (Split trees))
