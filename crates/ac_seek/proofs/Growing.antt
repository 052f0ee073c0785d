-- How large the tree can be.
use Rattle.std.proofs.Common.{◌≡◌, ℕ, zero, suc, ◌+◌, ◌-◌, ◌*◌, ◌^◌, ◌≤◌, true, false, List, [], ◌∷◌, eqb, refl, ap, inl, inr, subst, arith}
use Rattle.std.specs.Prelude.{◌||◌}
use Rattle.std.specs.List.{AllByRecursion}
use Rattle.std.proofs.Math.Nat.{pow-suc}
use Rattle.std.proofs.lemmas.Bool.{cases_eq, eq-eqb, ne_eqb, leb-false, cond_both}
use Rattle.ac_expo.specs.Raw.{channels, channel_span}
use Rattle.ac_cost.specs.Records.{AtOffset}
use Rattle.ac_bound.proofs.Leasts.{kinds-most}
use Rattle.ac_seek.specs.declared.step.Step.{Step}
use Rattle.ac_seek.specs.Games.{Game, IsNext, IsPath, channel_of, boundary_of}
use Rattle.ac_seek.specs.Trees.{of_kinds, of_ends, total, next_steps, closed, whole, size, remaining}
use Rattle.ac_seek.specs.Laws.{SizeIsBounded, OneChannelIsSmall}
use Rattle.ac_seek.specs.Words.{game_of, IsTreeSize}
use Rattle.ac_seek.proofs.Below.{All-left, All-right}
use Rattle.ac_seek.proofs.Paths.{IsShort-path}
use Rattle.ac_seek.proofs.Sizes.{or_right, all_next}
use Rattle.ac_seek.proofs.Turns.{total-append}

-- 4 to a power, as plain multiplication
abbrev fours : ℕ → ℕ
fours zero = 1
fours (suc n) = 4 * fours n

fours-some : (n : ℕ) → 1 ≤ fours n
fours-some zero = omega arith
fours-some (suc n) = omega (arith, fours-some n)

fours-next : (k to : ℕ) → to ≤ k → fours (k + 1 - to) ≡ 4 * fours (k - to)
fours-next k to l = let e : k + 1 - to ≡ suc (k - to) = omega arith in ap fours e

-- the runs of one end
kinds-sum : (f : Step → ℕ) (k n channel from to kind : ℕ) → AllByRecursion (λ s. f s ≤ fours (k - s.run.to)) (of_kinds n channel from to kind) → total f (of_kinds n channel from to kind) ≤ n * fours (k - to)
kinds-sum f k zero channel from to kind all = omega arith
kinds-sum f k (suc n) channel from to kind all =
    omega (arith, all.0, kinds-sum f k n channel from to (kind + 1) all.1)

three : (n x : ℕ) → n ≤ 3 → n * x ≤ 3 * x
three zero x l = omega arith
three (suc zero) x l = omega arith
three (suc (suc zero)) x l = omega arith
three (suc (suc (suc zero))) x l = omega arith
three (suc (suc (suc (suc n)))) x l = absurd (omega arith)

-- and those of the ends from one on
ends-sum : (kinds : ℕ → ℕ) (f : Step → ℕ) (k n channel from to : ℕ) → kinds channel ≤ 3 → to + n ≤ k + 1 → AllByRecursion (λ s. f s ≤ fours (k - s.run.to)) (of_ends kinds n channel from to) → total f (of_ends kinds n channel from to) + 1 ≤ fours (k + 1 - to)
ends-sum kinds f k zero channel from to few l all = fours-some (k + 1 - to)
ends-sum kinds f k (suc n) channel from to few l all =
    let here = of_kinds (kinds channel) channel from to 1 in
    let later = of_ends kinds n channel from (to + 1) in
    let P : Step → Type 0 = λ s. f s ≤ fours (k - s.run.to) in
    let sum = total-append f here later in
    let some = kinds-sum f k (kinds channel) channel from to 1 (All-left P here later all) in
    let most = three (kinds channel) (fours (k - to)) few in
    let rest = ends-sum kinds f k n channel from (to + 1) few (omega arith) (All-right P here later all) in
    let same : fours (k + 1 - (to + 1)) ≡ fours (k - to) = ap fours (omega arith) in
    let next = fours-next k to (omega arith) in
    omega (arith, sum, some, most, rest, same, next)

-- ---- what is left below a child
left : (g : Game) (path : List Step) (s : Step) → IsNext g (channel_of path) (boundary_of path) s → remaining g (s ∷ path) ≡ 6 * (g.channels - channel_of path) - s.run.to
left g path s ok = elim (cases_eq s.run.to 6) [
  | inl e ↦
      let t : eqb s.run.to 6 ≡ true = eq-eqb s.run.to 6 e in rw t (omega (arith, e, ok.inside, ok.same))
  | inr other ↦
      let t : eqb s.run.to 6 ≡ false = ne_eqb s.run.to 6 other in rw t (omega (arith, ok.same))
]

size-most : (g : Game) (pot : ℕ → ℕ → ℕ → ℕ) (n : ℕ) (path : List Step) → ((c : ℕ) → g.kinds c ≤ 3) → IsPath g path → size g pot n path ≤ fours (remaining g path)
unfolding size
size-most g pot zero path few is = fours-some (remaining g path)
size-most g pot (suc n) path few is =
    let channel = channel_of path in
    let at = boundary_of path in
    let k = 6 * (g.channels - channel) in
    let P : ℕ → Type 0 = λ x. x ≤ fours (remaining g path) in
    let f : Step → ℕ = λ s. size g pot n (s ∷ path) in
    cond_both (closed g pot path || whole g path) 1 (1 + total f (next_steps g.kinds channel at)) P (λ e. fours-some (remaining g path)) (λ o.
    let inside = leb-false g.channels channel (or_right (closed g pot path) (whole g path) o) in
    let low = (IsShort-path g path is).boundary in
    let all = all_next (λ s. f s ≤ fours (k - s.run.to)) g channel at inside (λ s ok. subst (λ r. f s ≤ fours r) (left g path s ok) (size-most g pot n (s ∷ path) few (ok, is))) in
    let sum = ends-sum g.kinds f k (6 - at) channel at (at + 1) (few channel) (omega arith) all in
    let same : fours (k + 1 - (at + 1)) ≡ fours (remaining g path) = ap fours (omega arith) in
    omega (arith, sum, same))

-- ---- at an offset
fours-power : (n : ℕ) → fours n ≡ 4 ^ n
fours-power zero = refl
fours-power (suc n) = omega (arith, fours-power n, pow-suc 4 n)

tree-most : (v : AtOffset) (n : ℕ) → IsTreeSize v n → n ≤ fours (6 * channels v.shape)
tree-most v n is =
    let g = game_of v in
    let most = size-most g is.pot (6 * g.channels) [] (λ c. kinds-most (channel_span v.shape c).lead) tt in
    let same : fours (remaining g []) ≡ fours (6 * channels v.shape) = ap fours (omega arith) in
    omega (arith, most, same, is.nodes)

pub bounded : SizeIsBounded
bounded v n is = omega (arith, tree-most v n is, fours-power (6 * channels v.shape))

pub small : OneChannelIsSmall
small v n one is =
    let same : fours (6 * channels v.shape) ≡ fours 6 = ap (λ k. fours (6 * k)) one in
    omega (arith, tree-most v n is, same)
