-- What one look does to the nodes that are owed.
use Rattle.std.proofs.Common.{◌≡◌, ℕ, suc, zero, ◌+◌, ◌*◌, ◌<◌, ◌≤◌, ◌-◌, List, [], ◌∷◌, ◌++◌, map, Bool, true, false, refl, sym, ap, ◌∙◌, arith, subst}
use Rattle.std.specs.Prelude.{◌||◌}
use Rattle.std.specs.List.{AllByRecursion}
use Rattle.std.proofs.lemmas.Bool.{le-leb, lt-leb, cond_both}
use Rattle.ac_seek.specs.declared.step.Step.{Step}
use Rattle.ac_seek.specs.Games.{Game, IsNext, IsPath, channel_of, boundary_of}
use Rattle.ac_seek.specs.Trees.{total, of_kinds, of_ends, NonePasses, closed, whole, size, tree_size, next_steps}
use Rattle.ac_seek.specs.Walks.{later_steps, laters, owed, NothingLeft}
use Rattle.ac_seek.proofs.Below.{All-left, All-right, covers, step}
use Rattle.ac_seek.proofs.Sizes.{stable}
use Rattle.ac_seek.proofs.Paths.{IsShort-path}

-- ---- the next partial assignment
pub laters-none : (kinds : ℕ → ℕ) (s : Step) (path : List Step) → later_steps kinds s ≡ [] → laters kinds (s ∷ path) ≡ laters kinds path
laters-none kinds s path e = ap (λ (steps : List Step). map (λ next. next ∷ path) steps ++ laters kinds path) e

pub laters-some : (kinds : ℕ → ℕ) (s t : Step) (path : List Step) → later_steps kinds s ≡ t ∷ later_steps kinds t → laters kinds (s ∷ path) ≡ (t ∷ path) ∷ laters kinds (t ∷ path)
laters-some kinds s t path e = ap (λ (steps : List Step). map (λ next. next ∷ path) steps ++ laters kinds path) e

pub next-own : (g : Game) (channel at : ℕ) (s : Step) → IsNext g channel at s → IsNext g s.channel s.run.from s
next-own g channel at s ok =
    subst (λ x. IsNext g s.channel x s) (sym ok.starts) (subst (λ x. IsNext g x at s) (sym ok.same) ok)

pub next-place : (g : Game) (channel at : ℕ) (s t : Step) → IsNext g channel at s → IsNext g s.channel s.run.from t → IsNext g channel at t
next-place g channel at s t ok h =
    subst (λ x. IsNext g channel x t) ok.starts (subst (λ x. IsNext g x s.run.from t) ok.same h)

-- ---- sizes
size-leaf : (g : Game) (pot : ℕ → ℕ → ℕ → ℕ) (n : ℕ) (path : List Step) → (closed g pot path || whole g path) ≡ true → size g pot n path ≡ 1
unfolding size
size-leaf g pot zero path e = refl
size-leaf g pot (suc n) path e = rw e refl

size-inner : (g : Game) (pot : ℕ → ℕ → ℕ → ℕ) (n : ℕ) (path : List Step) → (closed g pot path || whole g path) ≡ false → size g pot (suc n) path ≡ 1 + total (λ s. size g pot n (s ∷ path)) (next_steps g.kinds (channel_of path) (boundary_of path))
unfolding size
size-inner g pot n path e = rw e refl

pub tree_size-inner : (g : Game) (pot : ℕ → ℕ → ℕ → ℕ) (path : List Step) → IsPath g path → (closed g pot path || whole g path) ≡ false → tree_size g pot path ≡ 1 + total (λ s. tree_size g pot (s ∷ path)) (next_steps g.kinds (channel_of path) (boundary_of path))
tree_size-inner g pot path is e =
    sym (stable g pot (6 * g.channels) path (omega (arith, (IsShort-path g path is).runs))) ∙ size-inner g pot (6 * g.channels) path e

-- ---- a leaf of the tree
leaf : (g : Game) (pot : ℕ → ℕ → ℕ → ℕ) (path : List Step) → (closed g pot path || whole g path) ≡ true → owed g pot path ≡ 1 + total (tree_size g pot) (laters g.kinds path)
leaf g pot path e = ap (λ x. x + total (tree_size g pot) (laters g.kinds path)) (size-leaf g pot (6 * g.channels) path e)

pub leaf-goes : (g : Game) (pot : ℕ → ℕ → ℕ → ℕ) (Passes : List Step → Type 0) (path new : List Step) → (closed g pot path || whole g path) ≡ true → laters g.kinds path ≡ new ∷ laters g.kinds new → NonePasses g Passes path → (owed g pot path ≡ 1 + owed g pot new) × (NothingLeft g Passes new → NothingLeft g Passes path)
leaf-goes g pot Passes path new e l none = (
  leaf g pot path e ∙ ap (λ (ps : List (List Step)). 1 + total (tree_size g pot) ps) l,
  λ h. (none, subst (λ (ps : List (List Step)). AllByRecursion (NonePasses g Passes) ps) (sym l) h),
)

pub leaf-ends : (g : Game) (pot : ℕ → ℕ → ℕ → ℕ) (Passes : List Step → Type 0) (path : List Step) → (closed g pot path || whole g path) ≡ true → laters g.kinds path ≡ [] → NonePasses g Passes path → (owed g pot path ≡ 1) × NothingLeft g Passes path
leaf-ends g pot Passes path e l none = (
  leaf g pot path e ∙ ap (λ (ps : List (List Step)). 1 + total (tree_size g pot) ps) l,
  (none, subst (λ (ps : List (List Step)). AllByRecursion (NonePasses g Passes) ps) (sym l) tt),
)

-- ---- the first child
pub total-append : {X : Type 0} (f : X → ℕ) (xs ys : List X) → total f (xs ++ ys) ≡ total f xs + total f ys
total-append f [] ys = omega arith
total-append f (x ∷ xs) ys = omega (arith, total-append f xs ys)

total-map : {X Y : Type 0} (h : X → Y) (f : Y → ℕ) (xs : List X) → total f (map h xs) ≡ total (λ x. f (h x)) xs
total-map h f [] = refl
total-map h f (x ∷ xs) = omega (arith, total-map h f xs)

All-map : {X Y : Type 0} (h : X → Y) (P : Y → Type 0) (xs : List X) → AllByRecursion P (map h xs) → AllByRecursion (λ x. P (h x)) xs
All-map h P [] a = tt
All-map h P (x ∷ xs) a = (a.0, All-map h P xs a.1)

pub down : (g : Game) (pot : ℕ → ℕ → ℕ → ℕ) (Passes : List Step → Type 0) (path : List Step) (s : Step) → IsPath g path → (closed g pot path || whole g path) ≡ false → channel_of path < g.channels → next_steps g.kinds (channel_of path) (boundary_of path) ≡ s ∷ later_steps g.kinds s → (owed g pot path ≡ 1 + owed g pot (s ∷ path)) × (NothingLeft g Passes (s ∷ path) → NothingLeft g Passes path)
down g pot Passes path s is e inside next =
    let siblings : List (List Step) = map (λ t. t ∷ path) (later_steps g.kinds s) in
    let inner = tree_size-inner g pot path is e in
    let parts = total-append (tree_size g pot) siblings (laters g.kinds path) in
    let each = total-map (λ (t : Step). t ∷ path) (tree_size g pot) (later_steps g.kinds s) in
    let here : tree_size g pot path ≡ 1 + total (λ t. tree_size g pot (t ∷ path)) (s ∷ later_steps g.kinds s) =
    inner ∙ ap (λ (steps : List Step). 1 + total (λ t. tree_size g pot (t ∷ path)) steps) next in (
      omega (arith, here, parts, each),
      λ h. (
        covers g Passes path inside (subst (λ (steps : List Step). AllByRecursion (λ t. NonePasses g Passes (t ∷ path)) steps) (sym next) (h.0, All-map (λ (t : Step). t ∷ path) (NonePasses g Passes) (later_steps g.kinds s) (All-left (NonePasses g Passes) siblings (laters g.kinds path) h.1))),
        All-right (NonePasses g Passes) siblings (laters g.kinds path) h.1,
      ),
    )

-- the first run that may come next
pub next-first : (kinds : ℕ → ℕ) (channel at : ℕ) → at < 6 → 1 ≤ kinds channel → next_steps kinds channel at ≡ step channel at (at + 1) 1 ∷ later_steps kinds (step channel at (at + 1) 1)
next-first kinds channel at low some =
    let a : 6 - at ≡ suc (6 - (at + 1)) = omega arith in
    let b : kinds channel ≡ suc (kinds channel - 1) = omega arith in
    let first = step channel at (at + 1) 1 in
    subst (λ n. of_ends kinds n channel at (at + 1) ≡ first ∷ later_steps kinds first) (sym a)
    (subst (λ k. of_kinds k channel at (at + 1) 1 ++ of_ends kinds (6 - (at + 1)) channel at (at + 1 + 1) ≡ first ∷ later_steps kinds first) (sym b) refl)

pub IsNext-first : (g : Game) (channel at : ℕ) → channel < g.channels → at < 6 → 1 ≤ g.kinds channel → IsNext g channel at (step channel at (at + 1) 1)
IsNext-first g channel at inside low some = record {
  inside = inside;
  same = refl;
  starts = refl;
  later = omega arith;
  ends = omega arith;
  some_kind = omega arith;
  kind = some;
}

pub leaf-closed : (g : Game) (pot : ℕ → ℕ → ℕ → ℕ) (path : List Step) → closed g pot path ≡ true → (closed g pot path || whole g path) ≡ true
leaf-closed g pot path e = rw e refl

or-true : (a : Bool) → (a || true) ≡ true
or-true true = refl
or-true false = refl

pub leaf-whole : (g : Game) (pot : ℕ → ℕ → ℕ → ℕ) (path : List Step) → g.channels ≤ channel_of path → (closed g pot path || whole g path) ≡ true
leaf-whole g pot path past = rw (le-leb g.channels (channel_of path) past) (or-true (closed g pot path))

pub no-leaf : (g : Game) (pot : ℕ → ℕ → ℕ → ℕ) (path : List Step) → closed g pot path ≡ false → channel_of path < g.channels → (closed g pot path || whole g path) ≡ false
no-leaf g pot path e inside = rw e (lt-leb g.channels (channel_of path) inside)

pub down-first : (g : Game) (pot : ℕ → ℕ → ℕ → ℕ) (Passes : List Step → Type 0) (path new : List Step) (s : Step) (channel at : ℕ) → IsPath g path → closed g pot path ≡ false → channel ≡ channel_of path → at ≡ boundary_of path → channel < g.channels → at < 6 → 1 ≤ g.kinds channel → s ≡ step channel at (at + 1) 1 → new ≡ s ∷ path → (owed g pot path ≡ 1 + owed g pot new) × (NothingLeft g Passes new → NothingLeft g Passes path)
down-first g pot Passes path new s channel at is is_open ec ea inside low some es en =
    let n = next-first g.kinds channel at low some in
    let n2 = subst (λ (t : Step). next_steps g.kinds channel at ≡ t ∷ later_steps g.kinds t) (sym es) n in
    let n3 = subst (λ x. next_steps g.kinds x at ≡ s ∷ later_steps g.kinds s) ec n2 in
    let n4 = subst (λ x. next_steps g.kinds (channel_of path) x ≡ s ∷ later_steps g.kinds s) ea n3 in
    let i : channel_of path < g.channels = omega arith in
    subst (λ (q : List Step). (owed g pot path ≡ 1 + owed g pot q) × (NothingLeft g Passes q → NothingLeft g Passes path)) (sym en)
    (down g pot Passes path s is (no-leaf g pot path is_open i) i n4)

size-pos : (g : Game) (pot : ℕ → ℕ → ℕ → ℕ) (n : ℕ) (path : List Step) → 1 ≤ size g pot n path
unfolding size
size-pos g pot zero path = omega arith
size-pos g pot (suc n) path =
    let P : ℕ → Type 0 = λ x. 1 ≤ x in
    cond_both (closed g pot path || whole g path) 1 (1 + total (λ s. size g pot n (s ∷ path)) (next_steps g.kinds (channel_of path) (boundary_of path))) P (λ e. omega arith) (λ e. omega arith)

pub owed-pos : (g : Game) (pot : ℕ → ℕ → ℕ → ℕ) (path : List Step) → 1 ≤ owed g pot path
owed-pos g pot path = omega (arith, size-pos g pot (6 * g.channels) path)
