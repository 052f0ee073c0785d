-- What a tree without a fault tells.
use Rattle.std.proofs.Common.{◌≡◌, ◌⊎◌, ℕ, ◌<◌, ◌≤◌, Bool, true, false, List, [], ◌∷◌, length, map, None, refl, sym, ap, ◌∙◌, inl, inr, subst, arith}
use Rattle.std.specs.Prelude.{◌*◌, ◌==◌, if◌then◌else◌, Option}
use Rattle.std.specs.List.{AllByRecursion}
use Rattle.std.proofs.lemmas.Bool.{ltb-true, leb-true, leb-false, eqb-true}
use Rattle.std.proofs.lemmas.List.{length-map}
use Rattle.ac_base.specs.declared.sizes.Part.{Part}
use Rattle.ac_expo.specs.Raw.{channels}
use Rattle.ac_cost.specs.Records.{AtOffset}
use Rattle.ac_bound.proofs.Offsets.{fit-part}
use Rattle.ac_seek.specs.declared.step.Step.{Step}
use Rattle.ac_seek.specs.Games.{IsNext, IsPath, channel_of, boundary_of}
use Rattle.ac_seek.specs.Trees.{over, whole}
use Rattle.ac_seek.specs.Words.{game_of, words_of, FitsHere, NoneFits}
use Rattle.ac_seek.proofs.Below.{closes, covers, whole-none}
use Rattle.ac_seek.proofs.Premises.{IsGame}
use Rattle.ac_seek.proofs.Sizes.{all_next}
use Rattle.ac_claim.specs.declared.no.No.{No}
use Rattle.ac_claim.specs.declared.tree.Tree.{Tree}
use Rattle.ac_claim.specs.declared.tree.Tree.TheOpen.{Tree-F, Closed, Full, Split}
use Rattle.ac_claim.specs.declared.tree.Tree.TheViews.{roll-Tree}
use Rattle.ac_claim.specs.declared.tree.Tree.TheFolds.{map-Tree, fold-roll-Tree, ind-Tree}
use Rattle.ac_claim.specs.Laws.{TreeIsTrue}
use Rattle.ac_claim.specs.Potentials.{number_of}
use Rattle.ac_claim.specs.Trees.{nexts, closed_no, exact_sixths, full_no, children_no, count_no, split_no, node_no, tree_no}
use Rattle.ac_claim.proofs.Firsts.{or-parts, some-none, else-none, part-few}
use Rattle.ac_claim.proofs.Folds.{Faults}
use Rattle.ac_claim.proofs.Passing.{falls, game-by}

pub choice-none : (b : Bool) (x y : Option No) → (if b then x else y) ≡ None → ((b ≡ true) × (x ≡ None)) ⊎ ((b ≡ false) × (y ≡ None))
choice-none true x y h = inl (refl, h)
choice-none false x y h = inr (refl, h)

closed-true : (v : AtOffset) (pot : ℕ → ℕ → ℕ → ℕ) (part : Part) (path : List Step) → IsGame (game_of v) pot (FitsHere v) → IsPath (game_of v) path → closed_no v pot part path ≡ None → NoneFits v path
closed-true v pot part path game is h =
    closes (game_of v) pot (FitsHere v) (number_of part) path game (part-few part) is (else-none (over (game_of v) pot (number_of part) path) _ h)

over-room : (room bits : ℕ) → 6 * room < 6 * bits → bits ≤ room → ⊥
over-room room bits a b = omega arith

full-true : (v : AtOffset) (part : Part) (path : List Step) → full_no v part path ≡ None → NoneFits v path
full-true v part path h = elim (choice-none (whole (game_of v) path) _ _ h) [
  | inl there ↦
      let more = ltb-true ((game_of v).room (number_of part)) (exact_sixths v part path) (else-none _ _ there.1) in
      whole-none (game_of v) (FitsHere v) path (leb-true (channels v.shape) (channel_of path) there.0)
      (λ fits. over-room _ _ more (fit-part v.shape v.raw v.t (words_of path) fits (number_of part) (part-few part)))
  | inr not ↦ some-none _ not.1
]

module _ (v : AtOffset) (pot : ℕ → ℕ → ℕ → ℕ) where
  abbrev IsSound : Tree → Type 0
  IsSound tree = (path : List Step) → IsPath (game_of v) path → tree_no v pot tree path ≡ None → NoneFits v path

  abbrev Sound : Type 0
  Sound = (t : Tree) × IsSound t

  abbrev faults : List Sound → List Faults
  faults trees = map (tree_no v pot) (map (λ (e : Sound). e.0) trees)

  all-true : (trees : List Sound) (steps path : List Step) → IsPath (game_of v) path → length trees ≡ length steps → AllByRecursion (IsNext (game_of v) (channel_of path) (boundary_of path)) steps → children_no (faults trees) steps path ≡ None → AllByRecursion (λ s. NoneFits v (s ∷ path)) steps
  all-true [] [] path is l next h = tt
  all-true [] (s ∷ steps) path is l next h = absurd (omega arith)
  all-true (t ∷ trees) [] path is l next h = tt
  all-true (t ∷ trees) (s ∷ steps) path is l next h =
      let parts = or-parts (tree_no v pot t.0 (s ∷ path)) (children_no (faults trees) steps path) h in
      (t.1 (s ∷ path) (next.0, is) parts.0, all-true trees steps path is (omega arith) next.1 parts.1)

  split-true : (trees : List Sound) (path : List Step) → IsPath (game_of v) path → split_no v (faults trees) path ≡ None → NoneFits v path
  split-true trees path is h =
      let g = game_of v in
      let parts = or-parts (count_no v (length (faults trees)) path) (children_no (faults trees) (nexts v path) path) h in
      elim (choice-none (whole g path) _ _ parts.0) [
        | inl past ↦ some-none _ past.1
        | inr more ↦
            let inside : channel_of path < g.channels = leb-false g.channels (channel_of path) more.0 in
            let all = eqb-true (length (faults trees)) (length (nexts v path)) (else-none (length (faults trees) == length (nexts v path)) _ more.1) in
            let l : length trees ≡ length (nexts v path) =
            sym (length-map (map (λ (e : Sound). e.0) trees) (tree_no v pot) ∙ length-map trees (λ (e : Sound). e.0)) ∙ all in
            let next = all_next (IsNext g (channel_of path) (boundary_of path)) g (channel_of path) (boundary_of path) inside (λ s ok. ok) in
            covers g (FitsHere v) path inside (all-true trees (nexts v path) path is l next parts.1)
      ]

  module _ (game : IsGame (game_of v) pot (FitsHere v)) where
    node-true : (y : Tree-F Sound) → IsSound (roll-Tree (map-Tree Sound Tree (λ e. e.0) y))
    node-true (Closed part) path is h =
        closed-true v pot part path game is (sym (ap (λ (f : Faults). f path) (fold-roll-Tree Faults (node_no v pot) (Closed part))) ∙ h)
    node-true (Full part) path is h =
        full-true v part path (sym (ap (λ (f : Faults). f path) (fold-roll-Tree Faults (node_no v pot) (Full part))) ∙ h)
    node-true (Split trees) path is h =
        split-true trees path is (sym (ap (λ (f : Faults). f path) (fold-roll-Tree Faults (node_no v pot) (Split (map (λ (e : Sound). e.0) trees)))) ∙ h)

    sound : (tree : Tree) → IsSound tree
    sound tree = ind-Tree IsSound (λ x y is. subst (λ (z : Tree-F Tree). IsSound (roll-Tree z)) is (node-true y)) tree

pub tree-true : TreeIsTrue
tree-true v pot tree path end ok is h = sound v pot (game-by v pot end (falls v pot ok)) tree path is h
