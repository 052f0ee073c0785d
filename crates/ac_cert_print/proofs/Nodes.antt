-- The text of a tree by its root.
use Rattle.std.proofs.Common.{◌≡◌, ℕ, ◌+◌, ◌<◌, ◌≤◌, List, [], ◌∷◌, ◌++◌, length, map, take, get_or, ap, sym, subst, ◌∙◌, append_assoc, append-nil}
use Rattle.std.proofs.lemmas.List.{take_more, take_all}
use Rattle.ac_base.specs.declared.sizes.Part.{Part}
use Rattle.ac_claim.specs.declared.tree.Tree.{Tree}
use Rattle.ac_claim.specs.declared.tree.Tree.TheVariants as variant
use Rattle.ac_claim.specs.declared.tree.Tree.TheOpen.{Closed, Full, Split}
use Rattle.ac_claim.specs.declared.tree.Tree.TheFolds.{fold-Tree, fold-roll-Tree}
use Rattle.ac_cert_text.specs.TreeText.{closed_letter, full_letter, joined, node_text, tree_text}
use Rattle.ac_cert_print.specs.Pages.{Page, Wrote}
use Rattle.ac_cert_print.proofs.Writing.{then}

text-closed : (part : Part) → tree_text (variant.Closed part) ≡ 32 ∷ closed_letter part ∷ []
unfolding tree_text
text-closed part = ap (λ (t : Tree). fold-Tree (List ℕ) node_text t) (sym (variant.rolls-Closed part)) ∙ fold-roll-Tree (List ℕ) node_text (Closed part)

text-full : (part : Part) → tree_text (variant.Full part) ≡ 32 ∷ full_letter part ∷ []
unfolding tree_text
text-full part = ap (λ (t : Tree). fold-Tree (List ℕ) node_text t) (sym (variant.rolls-Full part)) ∙ fold-roll-Tree (List ℕ) node_text (Full part)

text-split : (trees : List Tree) → tree_text (variant.Split trees) ≡ 32 ∷ 40 ∷ (joined (map tree_text trees) ++ 32 ∷ 41 ∷ [])
unfolding tree_text
text-split trees = ap (λ (t : Tree). fold-Tree (List ℕ) node_text t) (sym (variant.rolls-Split trees)) ∙ fold-roll-Tree (List ℕ) node_text (Split trees)

one-more : (trees : List Tree) (t : Tree) → joined (map tree_text (trees ++ t ∷ [])) ≡ joined (map tree_text trees) ++ tree_text t
one-more [] t = append-nil (tree_text t)
one-more (x ∷ trees) t =
    ap (λ (l : List ℕ). tree_text x ++ l) (one-more trees t) ∙ sym (append_assoc (tree_text x) (joined (map tree_text trees)) (tree_text t))

-- ---- what the writer of a tree cites
pub closed-wrote : (tree : Tree) (part : Part) (letter : ℕ) (a b : Page) → tree ≡ variant.Closed part → letter ≡ closed_letter part → Wrote (32 ∷ letter ∷ []) a b → Wrote (tree_text tree) a b
closed-wrote tree part letter a b is e x =
    subst (λ (l : List ℕ). Wrote l a b) (ap (λ (n : ℕ). 32 ∷ n ∷ []) e ∙ (sym (text-closed part) ∙ sym (ap tree_text is))) x

pub full-wrote : (tree : Tree) (part : Part) (letter : ℕ) (a b : Page) → tree ≡ variant.Full part → letter ≡ full_letter part → Wrote (32 ∷ letter ∷ []) a b → Wrote (tree_text tree) a b
full-wrote tree part letter a b is e x =
    subst (λ (l : List ℕ). Wrote l a b) (ap (λ (n : ℕ). 32 ∷ n ∷ []) e ∙ (sym (text-full part) ∙ sym (ap tree_text is))) x

-- the bracket and the first so many children
abbrev pub opened : List Tree → ℕ → List ℕ
opened trees k = 32 ∷ 40 ∷ joined (map tree_text (take k trees))

pub child-wrote : (trees : List Tree) (k : ℕ) (child : Tree) (a b c : Page) → k < length trees → child ≡ get_or trees k child → Wrote (opened trees k) a b → Wrote (tree_text child) b c
    → Wrote (opened trees (k + 1)) a c
child-wrote trees k child a b c lt is x y =
    let taken : take (k + 1) trees ≡ take k trees ++ child ∷ [] = take_more trees k child lt ∙ ap (λ (t : Tree). take k trees ++ t ∷ []) (sym is) in
    let more : opened trees k ++ tree_text child ≡ opened trees (k + 1) =
    ap (λ (l : List ℕ). 32 ∷ 40 ∷ l) (sym (ap (λ (ts : List Tree). joined (map tree_text ts)) taken ∙ one-more (take k trees) child)) in
    subst (λ (l : List ℕ). Wrote l a c) more (then x y)

pub split-wrote : (tree : Tree) (trees : List Tree) (k : ℕ) (a b c : Page) → tree ≡ variant.Split trees → length trees ≤ k → Wrote (opened trees k) a b → Wrote (32 ∷ 41 ∷ []) b c
    → Wrote (tree_text tree) a c
split-wrote tree trees k a b c is all x y =
    let whole : opened trees k ++ 32 ∷ 41 ∷ [] ≡ tree_text tree =
    ap (λ (ts : List Tree). (32 ∷ 40 ∷ joined (map tree_text ts)) ++ 32 ∷ 41 ∷ []) (take_all k trees all) ∙ (sym (text-split trees) ∙ sym (ap tree_text is)) in
    subst (λ (l : List ℕ). Wrote l a c) whole (then x y)
