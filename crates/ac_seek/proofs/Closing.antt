-- Potentials make lower bounds, and what is looked up tells what is closed.
use Rattle.std.proofs.Common.{◌≡◌, ℕ, ◌+◌, ◌-◌, ◌*◌, ◌<◌, ◌≤◌, Bool, true, false, List, [], ◌∷◌, slice_index, slice_index_or, eqb, refl, sym, ap, ap₂, ◌∙◌, inl, inr, subst, arith}
use Rattle.std.specs.Prelude.{◌||◌, nat_lt, nat_le}
use Rattle.std.proofs.lemmas.Bool.{cases_eq, cases_lt, eq-eqb, ne_eqb, lt-ltb, le-ltb, le-leb, lt-leb}
use Rattle.ac_base.specs.Sigma.{sum_below}
use Rattle.ac_base.proofs.ByRuns.{sum_none, sum_same}
use Rattle.ac_expo.specs.Raw.{channels}
use Rattle.ac_cost.specs.Records.{AtOffset}
use Rattle.ac_cost.specs.Runs.{IsRunOf}
use Rattle.ac_cost.specs.Sixths.{run_sixths}
use Rattle.ac_cost.proofs.Assigning.{coded-few}
use Rattle.ac_bound.specs.declared.bounds.Partial.{Partial}
use Rattle.ac_bound.specs.Ways.{ArePots}
use Rattle.ac_bound.proofs.Sums.{sum_split}
use Rattle.ac_seek.specs.declared.board.Board.{Board}
use Rattle.ac_seek.specs.declared.step.Step.{Step}
use Rattle.ac_seek.specs.Boards.{IsBoard}
use Rattle.ac_seek.specs.Games.{Game, IsNext, channel_of, boundary_of, spent}
use Rattle.ac_seek.proofs.Premises.{IsBound}
use Rattle.ac_seek.specs.Trees.{rest, over, closed}
use Rattle.ac_seek.specs.Walks.{Holds}
use Rattle.ac_seek.specs.Words.{game_of}
use Rattle.ac_seek.proofs.Paths.{IsShort-path, next-run}

-- ---- no run costs less than what is still to come falls by
pub pots-fall : (v : AtOffset) (pot : ℕ → ℕ → ℕ → ℕ) (part channel at : ℕ) (s : Step) → ArePots v pot → part < 3 → IsNext (game_of v) channel at s → pot channel part at ≤ (game_of v).cost part s + pot channel part s.run.to
pots-fall v pot part channel at s are p ok =
    let after = are channel part s.run.to ok.inside p ok.ends in
    let run = next-run v channel at s ok in
    let here = (are channel part at ok.inside p (omega (arith, ok.later, ok.ends))).least (s.run ∷ after.one)
    (record { tiles = (ok.starts, ok.later, after.is_one.tiles); each = (subst (λ c. IsRunOf v.shape c s.run) ok.same run, after.is_one.each) }) in
    let cost = ap (λ c. run_sixths v.shape v.raw v.t part c s.run) ok.same in
    omega (arith, here, after.met, cost)

pots-end : (v : AtOffset) (pot : ℕ → ℕ → ℕ → ℕ) (part channel : ℕ) → ArePots v pot → part < 3 → channel < channels v.shape → pot channel part 6 ≤ 0
pots-end v pot part channel are p l =
    (are channel part 6 l p (omega arith)).least [] (record { tiles = refl; each = tt })

-- behind a channel the next one begins
rest-start : (g : Game) (pot : ℕ → ℕ → ℕ → ℕ) (part channel : ℕ) → channel < g.channels → sum_below (g.channels - channel - 1) (λ i. pot (channel + 1 + i) part 0) ≡ rest g pot part (channel + 1) 0
rest-start g pot part channel l = elim (cases_lt (channel + 1) g.channels) [
  | inl more ↦
      let t : nat_lt (channel + 1) g.channels ≡ true = lt-ltb (channel + 1) g.channels more in
      let m = g.channels - (channel + 1) - 1 in
      let f : ℕ → ℕ = λ i. pot (channel + 1 + i) part 0 in
      let e : g.channels - channel - 1 ≡ 0 + 1 + m = omega arith in
      let split = ap (λ n. sum_below n f) e ∙ sum_split 0 m f in
      let first : f 0 ≡ pot (channel + 1) part 0 = ap (λ k. pot k part 0) (omega arith) in
      let later = sum_same m (λ i. f (0 + 1 + i)) (λ i. pot (channel + 1 + 1 + i) part 0) (λ i. ap (λ k. pot k part 0) (omega arith)) in
      rw t (omega (arith, split, first, later, sum_none f))
  | inr none ↦
      let t : nat_lt (channel + 1) g.channels ≡ false = le-ltb (channel + 1) g.channels none in
      let f : ℕ → ℕ = λ i. pot (channel + 1 + i) part 0 in
      let e : g.channels - channel - 1 ≡ 0 = omega arith in
      rw t (ap (λ n. sum_below n f) e ∙ sum_none f)
]

-- within a channel
rest-here : (g : Game) (pot : ℕ → ℕ → ℕ → ℕ) (part channel at : ℕ) → channel < g.channels → rest g pot part channel at ≡ pot channel part at + sum_below (g.channels - channel - 1) (λ i. pot (channel + 1 + i) part 0)
rest-here g pot part channel at l =
    let t : nat_lt channel g.channels ≡ true = lt-ltb channel g.channels l in rw t refl

ends : (all here later cost end next : ℕ) → all ≡ here + later → here ≤ cost + end → end ≤ 0 → later ≡ next → all ≤ cost + next
ends all here later cost end next a b c d = omega arith

goes : (all here later cost there next : ℕ) → all ≡ here + later → here ≤ cost + there → next ≡ there + later → all ≤ cost + next
goes all here later cost there next a b c = omega arith

pub game-bound : (v : AtOffset) (pot : ℕ → ℕ → ℕ → ℕ) → ArePots v pot → IsBound (game_of v) pot
game-bound v pot are part channel at s p ok =
    let g = game_of v in
    let fall = pots-fall v pot part channel at s are p ok in
    let here = rest-here g pot part channel at ok.inside in
    elim (cases_eq s.run.to 6) [
      | inl e ↦
          let t : eqb s.run.to 6 ≡ true = eq-eqb s.run.to 6 e in
          let end = pots-end v pot part channel are p ok.inside in
          let zero_end = ap (λ k. pot channel part k) e in
          let start = rest-start g pot part channel ok.inside in
          let next : rest g pot part (s.channel + 1) 0 ≡ rest g pot part (channel + 1) 0 = ap (λ c. rest g pot part (c + 1) 0) ok.same in
          rw t (ends (rest g pot part channel at) (pot channel part at) (sum_below (g.channels - channel - 1) (λ i. pot (channel + 1 + i) part 0)) (g.cost part s) (pot channel part s.run.to) (rest g pot part (s.channel + 1) 0) here fall (omega (arith, zero_end, end)) (start ∙ sym next))
      | inr other ↦
          let f : eqb s.run.to 6 ≡ false = ne_eqb s.run.to 6 other in
          let next : rest g pot part s.channel s.run.to ≡ rest g pot part channel s.run.to = ap (λ c. rest g pot part c s.run.to) ok.same in
          let there = rest-here g pot part channel s.run.to ok.inside in
          rw f (goes (rest g pot part channel at) (pot channel part at) (sum_below (g.channels - channel - 1) (λ i. pot (channel + 1 + i) part 0)) (g.cost part s) (pot channel part s.run.to) (rest g pot part s.channel s.run.to) here fall (next ∙ there))
    ]

-- ---- what is looked up
limit-test : (room base spent rest limit sum : ℕ) → limit ≡ room + 1 - (base + rest) → sum ≡ spent → nat_le limit sum ≡ nat_lt room (base + spent + rest)
limit-test room base spent rest limit sum el es = elim (cases_lt room (base + spent + rest)) [
  | inl l ↦ le-leb limit sum (omega arith) ∙ sym (lt-ltb room (base + spent + rest) l)
  | inr m ↦ lt-leb limit sum (omega arith) ∙ sym (le-ltb room (base + spent + rest) m)
]

pub over-is : {C : Type 0} (offset : C → AtOffset) (board : Board C) (pot : ℕ → ℕ → ℕ → ℕ) (path : List Step) (partial : Partial) (part : ℕ) → IsBoard offset board → ArePots (offset board.table.now) pot → Holds (game_of (offset board.table.now)) path partial → part < 3 → nat_le (slice_index (slice_index_or board.limits (6 * partial.done + partial.at) []) part) (slice_index partial.spent part) ≡ over (game_of (offset board.table.now)) pot part path
over-is offset board pot path partial part is are held p =
    let v = offset board.table.now in
    let g = game_of v in
    let short = IsShort-path g path held.valid in
    let few = coded-few v.shape in
    let low : boundary_of path < 6 = short.boundary in
    let place : 6 * partial.done + partial.at < 6 * channels v.shape + 6 = omega (arith, held.done, held.at, short.channel, short.boundary, few) in
    let same : 6 * channel_of path + boundary_of path ≡ 6 * partial.done + partial.at = omega (arith, held.done, held.at) in
    let limit = is.limits pot are (6 * partial.done + partial.at) place (channel_of path) (boundary_of path) part low p same in
    limit-test (g.room part) (g.base part) (spent g part path) (rest g pot part (channel_of path) (boundary_of path)) (slice_index (slice_index_or board.limits (6 * partial.done + partial.at) []) part) (slice_index partial.spent part) limit (held.right part p)

pub closed-is : {C : Type 0} (offset : C → AtOffset) (board : Board C) (pot : ℕ → ℕ → ℕ → ℕ) (path : List Step) (partial : Partial) → IsBoard offset board → ArePots (offset board.table.now) pot → Holds (game_of (offset board.table.now)) path partial → (nat_le (slice_index (slice_index_or board.limits (6 * partial.done + partial.at) []) 0) (slice_index partial.spent 0) || nat_le (slice_index (slice_index_or board.limits (6 * partial.done + partial.at) []) 1) (slice_index partial.spent 1) || nat_le (slice_index (slice_index_or board.limits (6 * partial.done + partial.at) []) 2) (slice_index partial.spent 2)) ≡ closed (game_of (offset board.table.now)) pot path
closed-is offset board pot path partial is are held =
    ap₂ (λ (a b : Bool). a || b) (ap₂ (λ (a b : Bool). a || b) (over-is offset board pot path partial 0 is are held (omega arith)) (over-is offset board pot path partial 1 is are held (omega arith))) (over-is offset board pot path partial 2 is are held (omega arith))
