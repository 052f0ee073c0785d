-- The children built so far have no fault at the runs so far.
use Rattle.std.proofs.Common.{◌≡◌, ℕ, suc, zero, ◌+◌, ◌<◌, ◌≤◌, ◌-◌, ◌*◌, List, [], ◌∷◌, ◌++◌, length, map, IfSome, MatchOption, Option, Some, None, Bool, true, false, eqb, cond, refl, sym, ap, ◌∙◌, subst, arith}
use Rattle.std.specs.Prelude.{nat_lt}
use Rattle.std.proofs.lemmas.List.{append_assoc, append-nil, length-map}
use Rattle.std.proofs.lemmas.Bool.{lt-ltb, lt-leb, le-leb, eq-eqb}
use Rattle.ac_base.specs.declared.sizes.Part.{Part}
use Rattle.ac_base.specs.Fit.{rooms_of}
use Rattle.ac_expo.specs.Raw.{channels}
use Rattle.ac_cost.specs.Parts.{parts_at}
use Rattle.ac_cost.specs.Records.{AtOffset}
use Rattle.ac_cost.specs.Sixths.{part_of}
use Rattle.ac_bound.specs.Steps.{kinds_of}
use Rattle.ac_seek.specs.declared.step.Step.{Step}
use Rattle.ac_seek.specs.Games.{Game, IsNext, channel_of, boundary_of}
use Rattle.ac_seek.specs.Trees.{next_steps, whole, over}
use Rattle.ac_seek.specs.Walks.{later_steps}
use Rattle.ac_seek.specs.Words.{game_of, words_of}
use Rattle.ac_seek.proofs.Turns.{next-first, IsNext-first, next-place}
use Rattle.ac_claim.specs.declared.no.No.{No}
use Rattle.ac_claim.specs.declared.tree.Tree.{Tree}
use Rattle.ac_claim.specs.declared.tree.Tree.TheVariants as variant
use Rattle.ac_claim.specs.Potentials.{or_else, number_of}
use Rattle.ac_claim.specs.Trees.{nexts, count_no, children_no, closed_no, full_no, exact_sixths, split_no, tree_no}
use Rattle.ac_claim.proofs.Firsts.{or-both}
use Rattle.ac_claim.proofs.Folds.{of-closed, of-full, of-split}
use Rattle.ac_trees.specs.declared.node.Node.{Node}
use Rattle.ac_trees.specs.Nodes.{IsAt}

-- ---- leaves
pick : (a : Bool) (x y : Option No) → a ≡ true → cond a x y ≡ x
pick a x y e = rw e refl

pub closed-none : (v : AtOffset) (pot : ℕ → ℕ → ℕ → ℕ) (part : Part) (path : List Step) → over (game_of v) pot (number_of part) path ≡ true → tree_no v pot (variant.Closed part) path ≡ None
closed-none v pot part path e = of-closed v pot part path ∙ pick _ _ _ e

both : (a b : Bool) (x y z : Option No) → a ≡ true → b ≡ true → cond a (cond b x y) z ≡ x
both a b x y z ea eb = rw (ea, eb) refl

pub full-none : (v : AtOffset) (pot : ℕ → ℕ → ℕ → ℕ) (part : Part) (path : List Step) → channels v.shape ≤ channel_of path → part_of (rooms_of v.shape.words) (number_of part) < part_of (parts_at v.shape v.raw v.t (words_of path)) (number_of part) → tree_no v pot (variant.Full part) path ≡ None
full-none v pot part path past l =
    let w : whole (game_of v) path ≡ true = le-leb (channels v.shape) (channel_of path) past in
    let o : nat_lt ((game_of v).room (number_of part)) (exact_sixths v part path) ≡ true = lt-ltb _ _ (omega (arith, l)) in
    of-full v pot part path ∙ both _ _ _ _ _ w o

-- ---- the children
-- each tree has no fault at its run, and there are as many
abbrev pub Fine : AtOffset → (ℕ → ℕ → ℕ → ℕ) → List Step → List Tree → List Step → Type 0
Fine v pot path [] [] = Unit {0}
Fine v pot path [] (s ∷ steps) = ⊥
Fine v pot path (t ∷ ts) [] = ⊥
Fine v pot path (t ∷ ts) (s ∷ steps) = (tree_no v pot t (s ∷ path) ≡ None) × Fine v pot path ts steps

Fine-push : (v : AtOffset) (pot : ℕ → ℕ → ℕ → ℕ) (path : List Step) (ts : List Tree) (steps : List Step) (t : Tree) (s : Step) → Fine v pot path ts steps → tree_no v pot t (s ∷ path) ≡ None → Fine v pot path (ts ++ t ∷ []) (steps ++ s ∷ [])
Fine-push v pot path [] [] t s f e = (e, tt)
Fine-push v pot path [] (r ∷ steps) t s f e = absurd f
Fine-push v pot path (u ∷ ts) [] t s f e = absurd f
Fine-push v pot path (u ∷ ts) (r ∷ steps) t s f e = (f.0, Fine-push v pot path ts steps t s f.1 e)

fine_length : (v : AtOffset) (pot : ℕ → ℕ → ℕ → ℕ) (path : List Step) (ts : List Tree) (steps : List Step) → Fine v pot path ts steps → length ts ≡ length steps
fine_length v pot path [] [] f = refl
fine_length v pot path [] (r ∷ steps) f = absurd f
fine_length v pot path (u ∷ ts) [] f = absurd f
fine_length v pot path (u ∷ ts) (r ∷ steps) f = omega (arith, fine_length v pot path ts steps f.1)

fine_none : (v : AtOffset) (pot : ℕ → ℕ → ℕ → ℕ) (path : List Step) (ts : List Tree) (steps : List Step) → Fine v pot path ts steps → children_no (map (tree_no v pot) ts) steps path ≡ None
fine_none v pot path [] steps f = refl
fine_none v pot path (u ∷ ts) [] f = absurd f
fine_none v pot path (u ∷ ts) (r ∷ steps) f =
    ap (λ (o : Option No). or_else o (children_no (map (tree_no v pot) ts) steps path)) f.0 ∙ fine_none v pot path ts steps f.1

-- ---- the loop over the children
abbrev pub steps_of : AtOffset → Option Step → List Step
steps_of v None = []
steps_of v (Some s) = s ∷ later_steps (kinds_of v.shape) s

-- what has been built, with the runs that are still to come
pub record Grown (v : AtOffset) (pot : ℕ → ℕ → ℕ → ℕ) (node : Node) (ts : List Tree) (next : Option Step) : Type 0 where
  pub done : List Step
  pub split : next_steps (kinds_of v.shape) node.partial.done node.partial.at ≡ done ++ steps_of v next
  pub fine : (path : List Step) → IsAt v path node → Fine v pot path ts done

pub Grown-start : (v : AtOffset) (pot : ℕ → ℕ → ℕ → ℕ) (node : Node) (s : Step) → next_steps (kinds_of v.shape) node.partial.done node.partial.at ≡ s ∷ later_steps (kinds_of v.shape) s → Grown v pot node [] (Some s)
Grown-start v pot node s e = record { done = []; split = e; fine = λ path is. tt }

pub Grown-push : (v : AtOffset) (pot : ℕ → ℕ → ℕ → ℕ) (node : Node) (ts : List Tree) (s : Step) (t : Tree) (next : Option Step) → Grown v pot node ts (Some s) → ((path : List Step) → IsAt v path node → tree_no v pot t (s ∷ path) ≡ None) → later_steps (kinds_of v.shape) s ≡ steps_of v next → Grown v pot node (ts ++ t ∷ []) next
Grown-push v pot node ts s t next w e l = record {
  done = w.done ++ s ∷ [];
  split = w.split ∙ ap (λ (steps : List Step). w.done ++ s ∷ steps) l ∙ sym (append_assoc w.done (s ∷ []) (steps_of v next));
  fine = λ path is. Fine-push v pot path ts w.done t s (w.fine path is) (e path is);
}

none-missing : (a b : Bool) (x z : Option No) → a ≡ false → b ≡ true → cond a x (cond b None z) ≡ None
none-missing a b x z ea eb = rw (ea, eb) refl

pub Grown-end : (v : AtOffset) (pot : ℕ → ℕ → ℕ → ℕ) (node : Node) (ts : List Tree) → node.partial.done < channels v.shape → Grown v pot node ts None → (path : List Step) → IsAt v path node → tree_no v pot (variant.Split ts) path ≡ None
Grown-end v pot node ts inside w path is =
    let fine = w.fine path is in
    let all : next_steps (kinds_of v.shape) node.partial.done node.partial.at ≡ w.done = w.split ∙ append-nil w.done in
    let here : nexts v path ≡ w.done = sym (ap (λ c. next_steps (kinds_of v.shape) c (boundary_of path)) is.held.done) ∙ (sym (ap (λ b. next_steps (kinds_of v.shape) node.partial.done b) is.held.at) ∙ all) in
    let open_ : whole (game_of v) path ≡ false = lt-leb (channels v.shape) (channel_of path) (omega (arith, inside, is.held.done)) in
    let n : eqb (length (map (tree_no v pot) ts)) (length (nexts v path)) ≡ true = eq-eqb _ _ (length-map ts (tree_no v pot) ∙ (fine_length v pot path ts w.done fine ∙ ap length (sym here))) in
    let f : children_no (map (tree_no v pot) ts) (nexts v path) path ≡ None = ap (λ (steps : List Step). children_no (map (tree_no v pot) ts) steps path) here ∙ fine_none v pot path ts w.done fine in
    let children = map (tree_no v pot) ts in
    of-split v pot ts path ∙ or-both (count_no v (length children) path) (children_no children (nexts v path) path) (none-missing _ _ _ _ open_ n) f

pub later-of : (v : AtOffset) (s : Step) (o : Option Step) → MatchOption o (later_steps (kinds_of v.shape) s ≡ []) (λ r. later_steps (kinds_of v.shape) s ≡ r ∷ later_steps (kinds_of v.shape) r) → later_steps (kinds_of v.shape) s ≡ steps_of v o
later-of v s None h = h
later-of v s (Some r) h = h

-- a sibling may come where the run may
pub place-all : (g : Game) (channel at : ℕ) (s : Step) (o : Option Step) → IsNext g channel at s → IfSome o (IsNext g s.channel s.run.from) → IfSome o (IsNext g channel at)
place-all g channel at s None ok h = tt
place-all g channel at s (Some r) ok h = next-place g channel at s r ok h

-- before the first child
pub record Starts (v : AtOffset) (pot : ℕ → ℕ → ℕ → ℕ) (node : Node) (s : Step) : Type 0 where
  pub next : IsNext (game_of v) node.partial.done node.partial.at s
  pub grown : Grown v pot node [] (Some s)

pub start-all : (v : AtOffset) (pot : ℕ → ℕ → ℕ → ℕ) (node : Node) (s : Step) → s ≡ record { channel = node.partial.done; run = record { from = node.partial.at; to = node.partial.at + 1; kind = 1 } } → node.partial.done < channels v.shape → node.partial.at < 6 → 1 ≤ (game_of v).kinds node.partial.done → Starts v pot node s
start-all v pot node s e inside low some =
    subst (λ (r : Step). Starts v pot node r) (sym e) (record {
      next = IsNext-first (game_of v) node.partial.done node.partial.at inside low some;
      grown = Grown-start v pot node _ (next-first (kinds_of v.shape) node.partial.done node.partial.at low some);
    })
