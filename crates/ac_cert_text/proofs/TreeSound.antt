-- The text of a tree is read, and what is read is the text of a tree.
use Rattle.std.proofs.Common.{◌≡◌, ℕ, ◌+◌, ◌-◌, ◌<◌, ◌≤◌, ◌&&◌, not, Bool, true, List, [], ◌∷◌, ◌++◌, length, map, Option, Some, None, Ok, refl, ap, sym, subst, ◌∙◌, arith, append_assoc}
use Rattle.std.specs.Prelude.{nat_lt}
use Rattle.std.specs.List.{list_all}
use Rattle.std.proofs.lemmas.Bool.{lt-ltb, ltb-true}
use Rattle.std.proofs.lemmas.List.{append-nil}
use Rattle.ac_base.specs.declared.sizes.Part.{Part}
use Rattle.ac_base.specs.declared.sizes.Part.TheVariants.{Front, Total, Last}
use Rattle.ac_claim.specs.declared.tree.Tree.{Tree}
use Rattle.ac_claim.specs.declared.tree.Tree.TheVariants as variant
use Rattle.ac_claim.specs.declared.tree.Tree.TheOpen.{Tree-F, Closed, Full, Split}
use Rattle.ac_claim.specs.declared.tree.Tree.TheViews.{roll-Tree}
use Rattle.ac_claim.specs.declared.tree.Tree.TheFolds.{fold-Tree, map-Tree, fold-roll-Tree, ind-Tree}
use Rattle.ac_cert_text.specs.Codec.{Outcome}
use Rattle.ac_cert_text.specs.TreeText.{closed_letter, full_letter, joined, node_text, tree_text, is_empty, node_fits, tree_fits, put, item, grow}
use Rattle.ac_cert_text.proofs.Numbers.{both}
use Rattle.ac_cert_text.proofs.Growing.{step-done, step-on, step_of}

-- ---- a tree's text, and whether it fits, by its root
text-closed : (part : Part) → tree_text (variant.Closed part) ≡ 32 ∷ closed_letter part ∷ []
unfolding tree_text
text-closed part = ap (λ (t : Tree). fold-Tree (List ℕ) node_text t) (sym (variant.rolls-Closed part)) ∙ fold-roll-Tree (List ℕ) node_text (Closed part)

text-full : (part : Part) → tree_text (variant.Full part) ≡ 32 ∷ full_letter part ∷ []
unfolding tree_text
text-full part = ap (λ (t : Tree). fold-Tree (List ℕ) node_text t) (sym (variant.rolls-Full part)) ∙ fold-roll-Tree (List ℕ) node_text (Full part)

text-split : (trees : List Tree) → tree_text (variant.Split trees) ≡ 32 ∷ 40 ∷ (joined (map tree_text trees) ++ 32 ∷ 41 ∷ [])
unfolding tree_text
text-split trees = ap (λ (t : Tree). fold-Tree (List ℕ) node_text t) (sym (variant.rolls-Split trees)) ∙ fold-roll-Tree (List ℕ) node_text (Split trees)

fits-closed : (part : Part) (room : ℕ) → tree_fits (variant.Closed part) room ≡ true
unfolding tree_fits
fits-closed part room =
    ap (λ (t : Tree). fold-Tree (ℕ → Bool) node_fits t room) (sym (variant.rolls-Closed part)) ∙ ap (λ (f : ℕ → Bool). f room) (fold-roll-Tree (ℕ → Bool) node_fits (Closed part))

fits-full : (part : Part) (room : ℕ) → tree_fits (variant.Full part) room ≡ true
unfolding tree_fits
fits-full part room =
    ap (λ (t : Tree). fold-Tree (ℕ → Bool) node_fits t room) (sym (variant.rolls-Full part)) ∙ ap (λ (f : ℕ → Bool). f room) (fold-roll-Tree (ℕ → Bool) node_fits (Full part))

fits-split : (trees : List Tree) (room : ℕ) → tree_fits (variant.Split trees) room
    ≡ (nat_lt 0 room && not (is_empty (map tree_fits trees)) && list_all (λ (fits : ℕ → Bool). fits (room - 1)) (map tree_fits trees))
unfolding tree_fits
fits-split trees room =
    ap (λ (t : Tree). fold-Tree (ℕ → Bool) node_fits t room) (sym (variant.rolls-Split trees)) ∙ ap (λ (f : ℕ → Bool). f room) (fold-roll-Tree (ℕ → Bool) node_fits (Split trees))

-- each of these trees fits
abbrev AllFit : ℕ → List Tree → Type 0
AllFit room [] = Unit {0}
AllFit room (t ∷ ts) = (tree_fits t room ≡ true) × AllFit room ts

all-fit : (room : ℕ) (ts : List Tree) → list_all (λ (fits : ℕ → Bool). fits room) (map tree_fits ts) ≡ true → AllFit room ts
all-fit room [] h = tt
all-fit room (t ∷ ts) h =
    let p = both (tree_fits t room) (list_all (λ (fits : ℕ → Bool). fits room) (map tree_fits ts)) h in
    (p.0, all-fit room ts p.1)

fit-all : (room : ℕ) (ts : List Tree) → AllFit room ts → list_all (λ (fits : ℕ → Bool). fits room) (map tree_fits ts) ≡ true
fit-all room [] h = refl
fit-all room (t ∷ ts) h = rw (h.0, fit-all room ts h.1) refl

some-trees : (ts : List Tree) → not (is_empty (map tree_fits ts)) ≡ true → not (is_empty ts) ≡ true
some-trees [] h = h
some-trees (t ∷ ts) h = refl

-- what a split that fits has
record FitSplit (room : ℕ) (ts : List Tree) : Type 0 where
  room_left : 0 < room
  some : not (is_empty ts) ≡ true
  all : AllFit (room - 1) ts

split-fit : (ts : List Tree) (room : ℕ) → tree_fits (variant.Split ts) room ≡ true → FitSplit room ts
split-fit ts room h =
    let e = sym (fits-split ts room) ∙ h in
    let p = both (nat_lt 0 room && not (is_empty (map tree_fits ts))) (list_all (λ (fits : ℕ → Bool). fits (room - 1)) (map tree_fits ts)) e in
    let q = both (nat_lt 0 room) (not (is_empty (map tree_fits ts))) p.0 in
    record { room_left = ltb-true 0 room q.0; some = some-trees ts q.1; all = all-fit (room - 1) ts p.1 }

fit-split : (t : Tree) (ts : List Tree) (room : ℕ) → 0 < room → AllFit (room - 1) (t ∷ ts) → tree_fits (variant.Split (t ∷ ts)) room ≡ true
fit-split t ts room some all =
    fits-split (t ∷ ts) room ∙ rw (lt-ltb 0 room some, all.0, fit-all (room - 1) ts all.1) refl

-- ---- what is spelled is read
abbrev placed_as : Option Tree → List (List Tree) → List ℕ → Outcome Tree
placed_as (Some t) up l = Ok (t, l)
placed_as None up l = grow up l

step : (open_ up : List (List Tree)) (b : ℕ) (l : List ℕ) (done : Option Tree) → item b open_ ≡ Ok (done, up) → grow open_ (32 ∷ b ∷ l) ≡ placed_as done up l
step open_ up b l (Some t) h = step-done open_ up b l t h
step open_ up b l None h = step-on open_ up b l h

abbrev Grows : Tree → Type 0
Grows t = (room : ℕ) (open_ : List (List Tree)) (rest : List ℕ) → tree_fits t room ≡ true → length open_ + room ≤ 42
    → grow open_ (tree_text t ++ rest) ≡ placed_as (put t open_).0 (put t open_).1 rest

grows-leaf : (t : Tree) (b : ℕ) → tree_text t ≡ 32 ∷ b ∷ [] → ((open_ : List (List Tree)) → item b open_ ≡ Ok (put t open_)) → Grows t
grows-leaf t b h k = λ room open_ rest fit few.
    ap (λ (x : List ℕ). grow open_ (x ++ rest)) h ∙ step open_ (put t open_).1 b rest (put t open_).0 (k open_)

grows-closed : (part : Part) → Grows (variant.Closed part)
grows-closed Front = grows-leaf (variant.Closed Front) 102 (text-closed Front) (λ open_. refl)
grows-closed Total = grows-leaf (variant.Closed Total) 116 (text-closed Total) (λ open_. refl)
grows-closed Last = grows-leaf (variant.Closed Last) 108 (text-closed Last) (λ open_. refl)

grows-full : (part : Part) → Grows (variant.Full part)
grows-full Front = grows-leaf (variant.Full Front) 70 (text-full Front) (λ open_. refl)
grows-full Total = grows-leaf (variant.Full Total) 84 (text-full Total) (λ open_. refl)
grows-full Last = grows-leaf (variant.Full Last) 76 (text-full Last) (λ open_. refl)

abbrev Grown_tree : Type 0
Grown_tree = (t : Tree) × Grows t

abbrev trees_of : List Grown_tree → List Tree
trees_of trees = map (λ (e : Grown_tree). e.0) trees

children : (trees : List Grown_tree) (room : ℕ) (front : List Tree) (open_ : List (List Tree)) (rest : List ℕ) → AllFit room (trees_of trees) → length open_ + 1 + room ≤ 42
    → grow (front ∷ open_) (joined (map tree_text (trees_of trees)) ++ rest) ≡ grow ((front ++ trees_of trees) ∷ open_) rest
children [] room front open_ rest fit few = ap (λ (x : List Tree). grow (x ∷ open_) rest) (sym (append-nil front))
children (e ∷ trees) room front open_ rest fit few =
    let later = joined (map tree_text (trees_of trees)) in
    ap (grow (front ∷ open_)) (append_assoc (tree_text e.0) later rest)
    ∙ (e.1 room (front ∷ open_) (later ++ rest) fit.0 (omega (arith, few))
    ∙ (children trees room (front ++ e.0 ∷ []) open_ rest fit.1 few
    ∙ ap (λ (x : List Tree). grow (x ∷ open_) rest) (append_assoc front (e.0 ∷ []) (trees_of trees))))

bracket-ok : (open_ : List (List Tree)) → length open_ < 42 → item 40 open_ ≡ step_of None ([] ∷ open_)
bracket-ok open_ h = rw (lt-ltb (length open_) 42 h) refl

close-ok : (ts : List Tree) (open_ : List (List Tree)) → not (is_empty ts) ≡ true → item 41 (ts ∷ open_) ≡ Ok (put (variant.Split ts) open_)
close-ok [] open_ h = absurd cc
close-ok (t ∷ ts) open_ h = refl

grows-split : (trees : List Grown_tree) → Grows (variant.Split (trees_of trees))
grows-split trees = λ room open_ rest fit few.
    let ts = trees_of trees in
    let all = joined (map tree_text ts) in
    let f = split-fit ts room fit in
    ap (λ (x : List ℕ). grow open_ (x ++ rest)) (text-split ts)
    ∙ (step open_ ([] ∷ open_) 40 ((all ++ 32 ∷ 41 ∷ []) ++ rest) None (bracket-ok open_ (omega (arith, few, f.room_left)))
    ∙ (ap (grow ([] ∷ open_)) (append_assoc all (32 ∷ 41 ∷ []) rest)
    ∙ (children trees (room - 1) [] open_ (32 ∷ 41 ∷ rest) f.all (omega (arith, few, f.room_left))
    ∙ step (ts ∷ open_) (put (variant.Split ts) open_).1 41 rest (put (variant.Split ts) open_).0 (close-ok ts open_ f.some))))

node-grows : (y : Tree-F Grown_tree) → Grows (roll-Tree (map-Tree Grown_tree Tree (λ e. e.0) y))
node-grows (Closed part) = subst Grows (sym (variant.rolls-Closed part)) (grows-closed part)
node-grows (Full part) = subst Grows (sym (variant.rolls-Full part)) (grows-full part)
node-grows (Split trees) = subst Grows (sym (variant.rolls-Split (trees_of trees))) (grows-split trees)

grows : (t : Tree) → Grows t
grows t = ind-Tree Grows (λ x y is. subst (λ (z : Tree-F Tree). Grows (roll-Tree z)) is (node-grows y)) t

-- ---- what is read is spelled
abbrev opened : List (List Tree) → List ℕ
opened [] = []
opened (ts ∷ open_) = opened open_ ++ 32 ∷ 40 ∷ joined (map tree_text ts)

abbrev Held : List (List Tree) → Type 0
Held [] = Unit {0}
Held (ts ∷ open_) = AllFit (42 - (length open_ + 1)) ts × (length open_ + 1 ≤ 42) × Held open_

abbrev Kept : List ℕ → Option Tree → List (List Tree) → Type 0
Kept seen (Some t) up = (tree_fits t 42 ≡ true) × (seen ≡ tree_text t)
Kept seen None up = Held up × (seen ≡ opened up)

joined-more : (ts : List Tree) (t : Tree) → joined (map tree_text (ts ++ t ∷ [])) ≡ joined (map tree_text ts) ++ tree_text t
joined-more [] t = append-nil (tree_text t)
joined-more (u ∷ ts) t =
    ap (λ (x : List ℕ). tree_text u ++ x) (joined-more ts t) ∙ sym (append_assoc (tree_text u) (joined (map tree_text ts)) (tree_text t))

fit-more : (room : ℕ) (ts : List Tree) (t : Tree) → AllFit room ts → tree_fits t room ≡ true → AllFit room (ts ++ t ∷ [])
fit-more room [] t all h = (h, tt)
fit-more room (u ∷ ts) t all h = (all.0, fit-more room ts t all.1 h)

put-kept : (t : Tree) (open_ : List (List Tree)) (seen : List ℕ) → Held open_ → tree_fits t (42 - length open_) ≡ true → seen ≡ opened open_ ++ tree_text t
    → Kept seen (put t open_).0 (put t open_).1
put-kept t [] seen held fit is = (fit, is)
put-kept t (ts ∷ open_) seen held fit is =
    let room : 42 - length (ts ∷ open_) ≡ 42 - (length open_ + 1) = omega arith in
    let fits = subst (λ (k : ℕ). tree_fits t k ≡ true) room fit in
    let all = joined (map tree_text ts) in (
      (fit-more (42 - (length open_ + 1)) ts t held.0 fits, held.1, held.2),
      is ∙ (append_assoc (opened open_) (32 ∷ 40 ∷ all) (tree_text t) ∙ ap (λ (x : List ℕ). opened open_ ++ 32 ∷ 40 ∷ x) (sym (joined-more ts t))),
    )
