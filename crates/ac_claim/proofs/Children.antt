-- The loop over the children of a split.
use Rattle.std.proofs.Common.{◌≡◌, ℕ, ◌+◌, ◌<◌, ◌≤◌, List, [], ◌∷◌, length, map, drop, get_or, Option, Some, None, Ok, Err, IfSome, sym, ap, ap₂, ◌∙◌, inl, inr, subst}
use Rattle.std.specs.Prelude.{MatchOption}
use Rattle.std.proofs.lemmas.List.{drop_more, drop_all, length-map}
use Rattle.std.proofs.lemmas.Bool.{leb-false}
use Rattle.ac_expo.specs.Raw.{channels, channel_span}
use Rattle.ac_cost.specs.Records.{AtOffset}
use Rattle.ac_bound.specs.declared.bounds.Partial.{Partial}
use Rattle.ac_bound.proofs.Leasts.{kinds-least}
use Rattle.ac_bound.specs.Steps.{kinds_of}
use Rattle.ac_seek.specs.declared.step.Step.{Step}
use Rattle.ac_seek.specs.Games.{Game, IsNext, channel_of, boundary_of}
use Rattle.ac_seek.specs.Trees.{whole}
use Rattle.ac_seek.specs.Words.{game_of}
use Rattle.ac_seek.proofs.Below.{step}
use Rattle.ac_seek.proofs.Paths.{IsShort-path}
use Rattle.ac_seek.proofs.Turns.{next-first, IsNext-first, next-place}
use Rattle.ac_seek.specs.Walks.{later_steps}
use Rattle.ac_claim.specs.declared.no.No.{No}
use Rattle.ac_claim.specs.declared.tree.Tree.{Tree}
use Rattle.ac_claim.specs.declared.tree.Tree.TheVariants as variant
use Rattle.ac_claim.specs.Potentials.{or_else}
use Rattle.ac_claim.specs.Tests.{result_of}
use Rattle.ac_claim.specs.Walks.{Stands}
use Rattle.ac_claim.specs.Trees.{nexts, children_no, count_no, tree_no}
use Rattle.ac_claim.proofs.Answering.{first_fails, ok_none}
use Rattle.ac_claim.proofs.Firsts.{or-none, some-none}
use Rattle.ac_claim.proofs.Trusting.{choice-none}
use Rattle.ac_claim.proofs.Folds.{of-split}

abbrev pub steps_of : (ℕ → ℕ) → Option Step → List Step
steps_of kinds None = []
steps_of kinds (Some s) = s ∷ later_steps kinds s

-- the first fault of the children from one on
abbrev pub rest : AtOffset → (ℕ → ℕ → ℕ → ℕ) → List Tree → ℕ → Option Step → List Step → Option No
rest v pot trees i next path = children_no (map (tree_no v pot) (drop i trees)) (steps_of (kinds_of v.shape) next) path

pub rest-none : (v : AtOffset) (pot : ℕ → ℕ → ℕ → ℕ) (trees : List Tree) (i : ℕ) (d : Tree) (path : List Step) → i < length trees → rest v pot trees i None path ≡ None
rest-none v pot trees i d path h =
    ap (λ (xs : List Tree). children_no (map (tree_no v pot) xs) [] path) (drop_more trees i (get_or trees i d) h)

pub rest-some : (v : AtOffset) (pot : ℕ → ℕ → ℕ → ℕ) (trees : List Tree) (i : ℕ) (t : Tree) (s : Step) (next : Option Step) (path : List Step) → i < length trees → t ≡ get_or trees i t → later_steps (kinds_of v.shape) s ≡ steps_of (kinds_of v.shape) next → rest v pot trees i (Some s) path ≡ or_else (tree_no v pot t (s ∷ path)) (rest v pot trees (i + 1) next path)
rest-some v pot trees i t s next path h e l =
    let kinds = kinds_of v.shape in
    ap (λ (xs : List Tree). children_no (map (tree_no v pot) xs) (s ∷ later_steps kinds s) path) (drop_more trees i t h)
    ∙ ap (λ (x : Tree). or_else (tree_no v pot x (s ∷ path)) (children_no (map (tree_no v pot) (drop (i + 1) trees)) (later_steps kinds s) path)) (sym e)
    ∙ ap (λ (steps : List Step). or_else (tree_no v pot t (s ∷ path)) (children_no (map (tree_no v pot) (drop (i + 1) trees)) steps path)) l

pub rest-end : (v : AtOffset) (pot : ℕ → ℕ → ℕ → ℕ) (trees : List Tree) (i : ℕ) (next : Option Step) (path : List Step) → length trees ≤ i → rest v pot trees i next path ≡ None
rest-end v pot trees i next path h =
    ap (λ (xs : List Tree). children_no (map (tree_no v pot) xs) (steps_of (kinds_of v.shape) next) path) (drop_all i trees h)

pub rest-start : (v : AtOffset) (pot : ℕ → ℕ → ℕ → ℕ) (tree : Tree) (trees : List Tree) (s : Step) (path : List Step) → tree ≡ variant.Split trees → count_no v (length trees) path ≡ None → nexts v path ≡ s ∷ later_steps (kinds_of v.shape) s → rest v pot trees 0 (Some s) path ≡ tree_no v pot tree path
rest-start v pot tree trees s path e count next =
    let n = length-map trees (tree_no v pot) in
    let a = ap (λ (t : Tree). tree_no v pot t path) e ∙ of-split v pot trees path in
    let b = or-none (count_no v (length (map (tree_no v pot) trees)) path) (children_no (map (tree_no v pot) trees) (nexts v path) path) (ap (λ k. count_no v k path) n ∙ count) in
    sym (a ∙ (b ∙ ap (λ (steps : List Step). children_no (map (tree_no v pot) trees) steps path) next))

pub split-count : (v : AtOffset) (pot : ℕ → ℕ → ℕ → ℕ) (tree : Tree) (trees : List Tree) (path : List Step) → tree ≡ variant.Split trees → tree_no v pot tree path ≡ or_else (count_no v (length trees) path) (children_no (map (tree_no v pot) trees) (nexts v path) path)
split-count v pot tree trees path e =
    ap (λ (t : Tree). tree_no v pot t path) e ∙ (of-split v pot trees path ∙ ap (λ k. or_else (count_no v k path) (children_no (map (tree_no v pot) trees) (nexts v path) path)) (length-map trees (tree_no v pot)))

pub popped : (r : Option Step) (old new path : List Step) (s : Step) → MatchOption r ((old ≡ []) × (new ≡ [])) (λ t. old ≡ t ∷ new) → old ≡ s ∷ path → new ≡ path
popped None old new path s m e = let a = m.0 in cc
popped (Some t) old new path s m e = let a : old ≡ t ∷ new = m in cc

-- the first of these, and the others
pub rest-step : (v : AtOffset) (pot : ℕ → ℕ → ℕ → ℕ) (trees : List Tree) (i : ℕ) (t : Tree) (s : Step) (path : List Step) → i < length trees → t ≡ get_or trees i t → rest v pot trees i (Some s) path ≡ or_else (tree_no v pot t (s ∷ path)) (children_no (map (tree_no v pot) (drop (i + 1) trees)) (later_steps (kinds_of v.shape) s) path)
rest-step v pot trees i t s path h e =
    let kinds = kinds_of v.shape in
    ap (λ (xs : List Tree). children_no (map (tree_no v pot) xs) (s ∷ later_steps kinds s) path) (drop_more trees i t h)
    ∙ ap (λ (x : Tree). or_else (tree_no v pot x (s ∷ path)) (children_no (map (tree_no v pot) (drop (i + 1) trees)) (later_steps kinds s) path)) (sym e)

pub child-fails : (v : AtOffset) (pot : ℕ → ℕ → ℕ → ℕ) (tree t : Tree) (trees : List Tree) (i : ℕ) (s : Step) (next : Option Step) (path start inner : List Step) (fault : No) → i < length trees → t ≡ get_or trees i t → next ≡ Some s → path ≡ start → inner ≡ s ∷ path → rest v pot trees i next path ≡ tree_no v pot tree path → Err fault ≡ result_of (tree_no v pot t inner) → Err fault ≡ result_of (tree_no v pot tree start)
child-fails v pot tree t trees i s next path start inner fault h e n same grown inv bad =
    let here : Err fault ≡ result_of (tree_no v pot t (s ∷ path)) = bad ∙ ap (λ (x : List Step). result_of (tree_no v pot t x)) grown in
    let all = first_fails (tree_no v pot t (s ∷ path)) (children_no (map (tree_no v pot) (drop (i + 1) trees)) (later_steps (kinds_of v.shape) s) path) fault here in
    let step = rest-step v pot trees i t s path h e in
    let inv2 = ap (λ (x : Option Step). rest v pot trees i x path) (sym n) ∙ inv in
    all ∙ (ap result_of (sym step ∙ inv2) ∙ ap (λ (x : List Step). result_of (tree_no v pot tree x)) same)

steps-match : (kinds : ℕ → ℕ) (s : Step) (r : Option Step) → MatchOption r (later_steps kinds s ≡ []) (λ n. later_steps kinds s ≡ n ∷ later_steps kinds n) → later_steps kinds s ≡ steps_of kinds r
steps-match kinds s None m = m
steps-match kinds s (Some n) m = m

pub child-passes : (v : AtOffset) (pot : ℕ → ℕ → ℕ → ℕ) (tree t : Tree) (trees : List Tree) (i : ℕ) (s : Step) (next after : Option Step) (path new inner : List Step) (u : Unit {0}) → i < length trees → t ≡ get_or trees i t → next ≡ Some s → new ≡ path → inner ≡ s ∷ path → rest v pot trees i next path ≡ tree_no v pot tree path → Ok u ≡ result_of (tree_no v pot t inner) → MatchOption after (later_steps (kinds_of v.shape) s ≡ []) (λ n. later_steps (kinds_of v.shape) s ≡ n ∷ later_steps (kinds_of v.shape) n) → rest v pot trees (i + 1) after new ≡ tree_no v pot tree new
child-passes v pot tree t trees i s next after path new inner u h e n same grown inv good m =
    let none : tree_no v pot t (s ∷ path) ≡ None = ap (tree_no v pot t) (sym grown) ∙ ok_none (tree_no v pot t inner) u good in
    let step = rest-some v pot trees i t s after path h e (steps-match (kinds_of v.shape) s after m) in
    let all = or-none (tree_no v pot t (s ∷ path)) (rest v pot trees (i + 1) after path) none in
    let inv2 = ap (λ (x : Option Step). rest v pot trees i x path) (sym n) ∙ inv in
    let here : rest v pot trees (i + 1) after path ≡ tree_no v pot tree path = sym all ∙ (sym step ∙ inv2) in
    subst (λ (x : List Step). rest v pot trees (i + 1) after x ≡ tree_no v pot tree x) (sym same) here

pub split-fails : (v : AtOffset) (pot : ℕ → ℕ → ℕ → ℕ) (tree : Tree) (trees : List Tree) (n : ℕ) (path : List Step) (fault : No) → tree ≡ variant.Split trees → n ≡ length trees → Err fault ≡ result_of (count_no v n path) → Err fault ≡ result_of (tree_no v pot tree path)
split-fails v pot tree trees n path fault e l bad =
    first_fails (count_no v (length trees) path) (children_no (map (tree_no v pot) trees) (nexts v path) path) fault (bad ∙ ap (λ k. result_of (count_no v k path)) l)
    ∙ sym (ap result_of (split-count v pot tree trees path e))

pub is-next : (g : Game) (path : List Step) (s : Step) (next : Option Step) → IfSome next (IsNext g (channel_of path) (boundary_of path)) → next ≡ Some s → IsNext g (channel_of path) (boundary_of path) s
is-next g path s next h e = subst (λ (x : Option Step). IfSome x (IsNext g (channel_of path) (boundary_of path))) e h

pub sibling-is : (g : Game) (path new : List Step) (s : Step) (r : Option Step) → IsNext g (channel_of path) (boundary_of path) s → IfSome r (λ n. IsNext g s.channel s.run.from n) → new ≡ path → IfSome r (IsNext g (channel_of new) (boundary_of new))
sibling-is g path new s None ok h e = tt
sibling-is g path new s (Some n) ok h e =
    subst (λ (x : List Step). IsNext g (channel_of x) (boundary_of x) n) (sym e) (next-place g (channel_of path) (boundary_of path) s n ok h)

-- the first run that may come next
pub count-inside : (v : AtOffset) (n : ℕ) (path : List Step) → count_no v n path ≡ None → channel_of path < channels v.shape
count-inside v n path h = elim (choice-none (whole (game_of v) path) _ _ h) [
  | inl past ↦ some-none _ past.1
  | inr more ↦ leb-false (channels v.shape) (channel_of path) more.0
]

first-is : (path : List Step) (partial : Partial) (s : Step) → partial.done ≡ channel_of path → partial.at ≡ boundary_of path → s ≡ step partial.done partial.at (partial.at + 1) 1 → s ≡ step (channel_of path) (boundary_of path) (boundary_of path + 1) 1
first-is path partial s done at e = e ∙ ap₂ (λ c b. step c b (b + 1) 1) done at

pub first-nexts : (v : AtOffset) (path : List Step) (partial : Partial) (s : Step) → Stands v path partial → channel_of path < channels v.shape → s ≡ step partial.done partial.at (partial.at + 1) 1 → nexts v path ≡ s ∷ later_steps (kinds_of v.shape) s
first-nexts v path partial s stands inside e =
    let kinds = kinds_of v.shape in
    let same = first-is path partial s stands.holds.done stands.holds.at e in
    subst (λ (x : Step). nexts v path ≡ x ∷ later_steps kinds x) (sym same) (next-first kinds (channel_of path) (boundary_of path) (IsShort-path (game_of v) path stands.holds.valid).boundary (kinds-least (channel_span v.shape (channel_of path)).lead))

pub first-next : (v : AtOffset) (path : List Step) (partial : Partial) (s : Step) → Stands v path partial → channel_of path < channels v.shape → s ≡ step partial.done partial.at (partial.at + 1) 1 → IsNext (game_of v) (channel_of path) (boundary_of path) s
first-next v path partial s stands inside e =
    let same = first-is path partial s stands.holds.done stands.holds.at e in
    subst (λ (x : Step). IsNext (game_of v) (channel_of path) (boundary_of path) x) (sym same) (IsNext-first (game_of v) (channel_of path) (boundary_of path) inside (IsShort-path (game_of v) path stands.holds.valid).boundary (kinds-least (channel_span v.shape (channel_of path)).lead))
