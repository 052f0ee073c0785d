-- Lower bounds, and what they rule out.
use Rattle.std.proofs.Common.{◌≡◌, ℕ, suc, zero, ◌+◌, ◌<◌, ◌≤◌, ◌-◌, List, [], ◌∷◌, ◌++◌, true, false, refl, sym, inl, inr, arith, subst}
use Rattle.std.specs.Prelude.{◌||◌, nat_lt}
use Rattle.std.specs.List.{AllByRecursion}
use Rattle.std.proofs.lemmas.Bool.{ltb-true, cases_eq, le-ltb, or_cases}
use Rattle.ac_seek.specs.declared.step.Step.{Step}
use Rattle.ac_seek.specs.Games.{Game, IsNext, IsPath, IsWay, channel_of, boundary_of, channel_after, boundary_after, spent, onto}
use Rattle.ac_seek.specs.Trees.{of_kinds, of_ends, next_steps, NonePasses, rest, lower, over, closed}
use Rattle.ac_seek.proofs.Premises.{IsBound, IsGame}

pub spent-onto : (g : Game) (part : ℕ) (path steps : List Step) → spent g part (onto path steps) ≡ spent g part path + spent g part steps
spent-onto g part path [] = omega arith
spent-onto g part path (s ∷ steps) = omega (arith, spent-onto g part (s ∷ path) steps)

rest-none : (g : Game) (pot : ℕ → ℕ → ℕ → ℕ) (part channel at : ℕ) → g.channels ≤ channel → rest g pot part channel at ≡ 0
rest-none g pot part channel at past =
    let e : nat_lt channel g.channels ≡ false = le-ltb channel g.channels past in rw e refl

le-sum : (x a y b : ℕ) → x ≤ a + y → y ≤ b → x ≤ a + b
le-sum x a y b p q = omega arith

rest-way : (g : Game) (pot : ℕ → ℕ → ℕ → ℕ) (part channel at : ℕ) (steps : List Step) → IsBound g pot → part < 3 → IsWay g channel at steps → rest g pot part channel at ≤ spent g part steps
rest-way g pot part channel at [] bound p w =
    let z = rest-none g pot part channel at w in subst (λ x. x ≤ 0) (sym z) (omega arith)
rest-way g pot part channel at (s ∷ steps) bound p w =
    let b = bound part channel at s p w.0 in
    let more = rest-way g pot part (channel_after s) (boundary_after s) steps bound p w.1 in
    le-sum (rest g pot part channel at) (g.cost part s) (rest g pot part (channel_after s) (boundary_after s)) (spent g part steps) b more

under : (base path rest steps whole : ℕ) → whole ≡ path + steps → rest ≤ steps → base + path + rest ≤ base + whole
under base path rest steps whole e l = omega arith

pub meets : (g : Game) (pot : ℕ → ℕ → ℕ → ℕ) (part : ℕ) (path steps : List Step) → IsBound g pot → part < 3 → IsWay g (channel_of path) (boundary_of path) steps → lower g pot part path ≤ g.base part + spent g part (onto path steps)
meets g pot part path steps bound p w =
    under (g.base part) (spent g part path) (rest g pot part (channel_of path) (boundary_of path)) (spent g part steps) (spent g part (onto path steps)) (spent-onto g part path steps) (rest-way g pot part (channel_of path) (boundary_of path) steps bound p w)

-- ---- what is completed is whole
pub path-onto : (g : Game) (path steps : List Step) → IsPath g path → IsWay g (channel_of path) (boundary_of path) steps → IsPath g (onto path steps)
path-onto g path [] is w = is
path-onto g path (s ∷ steps) is w = path-onto g (s ∷ path) steps (w.0, is) w.1

pub whole-onto : (g : Game) (path steps : List Step) → IsWay g (channel_of path) (boundary_of path) steps → g.channels ≤ channel_of (onto path steps)
whole-onto g path [] w = w
whole-onto g path (s ∷ steps) w = whole-onto g (s ∷ path) steps w.1

-- ---- closed partial assignments
between : (room lower cost : ℕ) → room < lower → lower ≤ cost → cost ≤ room → ⊥
between room lower cost a b c = omega arith

pub closes : (g : Game) (pot : ℕ → ℕ → ℕ → ℕ) (Passes : List Step → Type 0) (part : ℕ) (path : List Step) → IsGame g pot Passes → part < 3 → IsPath g path → over g pot part path ≡ true → NonePasses g Passes path
closes g pot Passes part path ok p is e steps w passes =
    between (g.room part) (lower g pot part path) (g.base part + spent g part (onto path steps)) (ltb-true (g.room part) (lower g pot part path) e) (meets g pot part path steps ok.bound p w)
    (ok.strict part (onto path steps) p (path-onto g path steps is w) (whole-onto g path steps w) passes)

pub closed-none : (g : Game) (pot : ℕ → ℕ → ℕ → ℕ) (Passes : List Step → Type 0) (path : List Step) → IsGame g pot Passes → IsPath g path → closed g pot path ≡ true → NonePasses g Passes path
closed-none g pot Passes path ok is e = elim (or_cases (over g pot 0 path || over g pot 1 path) (over g pot 2 path) e) [
  | inl first ↦ elim (or_cases (over g pot 0 path) (over g pot 1 path) first) [
    | inl e0 ↦ closes g pot Passes 0 path ok (omega arith) is e0
    | inr e1 ↦ closes g pot Passes 1 path ok (omega arith) is e1
  ]
  | inr e2 ↦ closes g pot Passes 2 path ok (omega arith) is e2
]

pub whole-none : (g : Game) (Passes : List Step → Type 0) (path : List Step) → g.channels ≤ channel_of path → (Passes path → ⊥) → NonePasses g Passes path
whole-none g Passes path past none [] w passes = none passes
whole-none g Passes path past none (s ∷ steps) w passes = absurd (omega (arith, w.0.inside))

-- ---- the children
pub All-left : {X : Type 0} (P : X → Type 0) (xs ys : List X) → AllByRecursion P (xs ++ ys) → AllByRecursion P xs
All-left P [] ys h = tt
All-left P (x ∷ xs) ys h = (h.0, All-left P xs ys h.1)

pub All-right : {X : Type 0} (P : X → Type 0) (xs ys : List X) → AllByRecursion P (xs ++ ys) → AllByRecursion P ys
All-right P [] ys h = h
All-right P (x ∷ xs) ys h = All-right P xs ys h.1

abbrev pub step : ℕ → ℕ → ℕ → ℕ → Step
step channel from to kind = record { channel = channel; run = record { from = from; to = to; kind = kind } }

at_kinds : (P : Step → Type 0) (n channel from to kind k : ℕ) → AllByRecursion P (of_kinds n channel from to kind) → kind ≤ k → k < kind + n → P (step channel from to k)
at_kinds P zero channel from to kind k h low high = absurd (omega arith)
at_kinds P (suc n) channel from to kind k h low high = elim (cases_eq kind k) [
  | inl e ↦ subst (λ x. P (step channel from to x)) e h.0
  | inr other ↦ at_kinds P n channel from to (kind + 1) k h.1 (omega arith) (omega arith)
]

at_ends : (P : Step → Type 0) (kinds : ℕ → ℕ) (n channel from to t k : ℕ) → AllByRecursion P (of_ends kinds n channel from to) → to ≤ t → t < to + n → 1 ≤ k → k ≤ kinds channel → P (step channel from t k)
at_ends P kinds zero channel from to t k h low high one most = absurd (omega arith)
at_ends P kinds (suc n) channel from to t k h low high one most =
    let here = of_kinds (kinds channel) channel from to 1 in
    let later = of_ends kinds n channel from (to + 1) in
    elim (cases_eq to t) [
      | inl e ↦
          subst (λ x. P (step channel from x k)) e (at_kinds P (kinds channel) channel from to 1 k (All-left P here later h) one (omega arith))
      | inr other ↦
          at_ends P kinds n channel from (to + 1) t k (All-right P here later h) (omega arith) (omega arith) one most
    ]

pub at_next : (P : Step → Type 0) (g : Game) (channel at : ℕ) (s : Step) → AllByRecursion P (next_steps g.kinds channel at) → IsNext g channel at s → P s
at_next P g channel at s h ok =
    let h2 = subst (λ x. AllByRecursion P (next_steps g.kinds x at)) (sym ok.same) h in
    let h3 = subst (λ x. AllByRecursion P (next_steps g.kinds s.channel x)) (sym ok.starts) h2 in
    let k : s.run.kind ≤ g.kinds s.channel = rw ok.same ok.kind in
    at_ends P g.kinds (6 - s.run.from) s.channel s.run.from (s.run.from + 1) s.run.to s.run.kind h3 (omega (arith, ok.starts, ok.later)) (omega (arith, ok.starts, ok.later, ok.ends)) ok.some_kind k

pub covers : (g : Game) (Passes : List Step → Type 0) (path : List Step) → channel_of path < g.channels → AllByRecursion (λ s. NonePasses g Passes (s ∷ path)) (next_steps g.kinds (channel_of path) (boundary_of path)) → NonePasses g Passes path
covers g Passes path inside h [] w = absurd (omega arith)
covers g Passes path inside h (s ∷ steps) w =
    at_next (λ s. NonePasses g Passes (s ∷ path)) g (channel_of path) (boundary_of path) s h w.0 steps w.1
