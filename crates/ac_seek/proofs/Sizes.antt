-- The size of the tree does not depend on a depth that is large enough.
use Rattle.std.proofs.Common.{◌≡◌, ℕ, suc, zero, ◌+◌, ◌<◌, ◌≤◌, ◌-◌, List, [], ◌∷◌, ◌++◌, Bool, true, false, cond, eqb, refl, sym, ap, ◌∙◌, inl, inr, arith, subst}
use Rattle.std.specs.Prelude.{◌||◌}
use Rattle.std.specs.List.{AllByRecursion}
use Rattle.std.proofs.lemmas.Bool.{leb-false, cases_eq, cases_lt, eq-eqb, ne_eqb}
use Rattle.ac_seek.specs.declared.step.Step.{Step}
use Rattle.ac_seek.specs.Games.{Game, IsNext, channel_of, boundary_of}
use Rattle.ac_seek.specs.Trees.{of_kinds, of_ends, total, next_steps, closed, whole, size, remaining}
use Rattle.ac_seek.specs.Laws.{SizeIsWhole}
use Rattle.ac_seek.proofs.Below.{step}

pub All-append : {X : Type 0} (P : X → Type 0) (xs ys : List X) → AllByRecursion P xs → AllByRecursion P ys → AllByRecursion P (xs ++ ys)
All-append P [] ys a b = b
All-append P (x ∷ xs) ys a b = (a.0, All-append P xs ys a.1 b)

all_kinds : (P : Step → Type 0) (g : Game) (n channel from to kind : ℕ) → channel < g.channels → from < to → to ≤ 6 → 1 ≤ kind → kind + n ≤ g.kinds channel + 1 → ((s : Step) → IsNext g channel from s → P s) → AllByRecursion P (of_kinds n channel from to kind)
all_kinds P g zero channel from to kind i f t k m h = tt
all_kinds P g (suc n) channel from to kind i f t k m h =
    (h (step channel from to kind) (record { inside = i; same = refl; starts = refl; later = f; ends = t; some_kind = k; kind = omega arith }), all_kinds P g n channel from to (kind + 1) i f t (omega arith) (omega arith) h)

all_ends : (P : Step → Type 0) (g : Game) (n channel from to : ℕ) → channel < g.channels → from < to → to + n ≤ 7 → ((s : Step) → IsNext g channel from s → P s) → AllByRecursion P (of_ends g.kinds n channel from to)
all_ends P g zero channel from to i f t h = tt
all_ends P g (suc n) channel from to i f t h =
    All-append P (of_kinds (g.kinds channel) channel from to 1) (of_ends g.kinds n channel from (to + 1)) (all_kinds P g (g.kinds channel) channel from to 1 i f (omega arith) (omega arith) (omega arith) h) (all_ends P g n channel from (to + 1) i (omega arith) (omega arith) h)

-- what holds of each run that may come next holds of all in the list
pub all_next : (P : Step → Type 0) (g : Game) (channel at : ℕ) → channel < g.channels → ((s : Step) → IsNext g channel at s → P s) → AllByRecursion P (next_steps g.kinds channel at)
all_next P g channel at i h = elim (cases_lt at 6) [
  | inl low ↦ all_ends P g (6 - at) channel at (at + 1) i (omega arith) (omega arith) h
  | inr high ↦
      let e : 6 - at ≡ 0 = omega arith in
      subst (λ n. AllByRecursion P (of_ends g.kinds n channel at (at + 1))) (sym e) tt
]

pub total_same : {X : Type 0} (f h : X → ℕ) (xs : List X) → AllByRecursion (λ x. f x ≡ h x) xs → total f xs ≡ total h xs
total_same f h [] all = refl
total_same f h (x ∷ xs) all = omega (arith, all.0, total_same f h xs all.1)

pub cond_same : (b : Bool) (x y z : ℕ) → (b ≡ false → y ≡ z) → cond b x y ≡ cond b x z
cond_same true x y z h = refl
cond_same false x y z h = h refl

cond_idle : (b : Bool) (x : ℕ) → cond b x x ≡ x
cond_idle true x = refl
cond_idle false x = refl

pub or_right : (a b : Bool) → (a || b) ≡ false → b ≡ false
or_right true b h = cc
or_right false b h = h

-- each child has fewer boundaries before it
pub fewer : (g : Game) (path : List Step) (s : Step) → IsNext g (channel_of path) (boundary_of path) s → remaining g (s ∷ path) < remaining g path
fewer g path s ok = elim (cases_eq s.run.to 6) [
  | inl e ↦
      let t : eqb s.run.to 6 ≡ true = eq-eqb s.run.to 6 e in
      rw t (omega (arith, ok.inside, ok.same, ok.later, ok.ends))
  | inr other ↦
      let f : eqb s.run.to 6 ≡ false = ne_eqb s.run.to 6 other in
      rw f (omega (arith, ok.inside, ok.same, ok.later, ok.ends))
]

pub stable : SizeIsWhole
unfolding size
stable g pot zero path h =
    cond_same (closed g pot path || whole g path) 1 _ 1 (λ o.
    let i = leb-false g.channels (channel_of path) (or_right (closed g pot path) (whole g path) o) in
    let e : 6 - boundary_of path ≡ 0 = omega arith in
    subst (λ n. 1 + total (λ (s : Step). 1) (of_ends g.kinds n (channel_of path) (boundary_of path) (boundary_of path + 1)) ≡ 1) (sym e) refl)
    ∙ cond_idle (closed g pot path || whole g path) 1
stable g pot (suc n) path h =
    cond_same (closed g pot path || whole g path) 1 _ _ (λ o.
    ap (λ x. 1 + x) (total_same (λ s. size g pot (suc n) (s ∷ path)) (λ s. size g pot n (s ∷ path)) (next_steps g.kinds (channel_of path) (boundary_of path))
    (all_next _ g (channel_of path) (boundary_of path) (leb-false g.channels (channel_of path) (or_right (closed g pot path) (whole g path) o))
    (λ s ok. stable g pot n (s ∷ path) (omega (arith, fewer g path s ok))))))
