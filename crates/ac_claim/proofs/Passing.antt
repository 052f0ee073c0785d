-- Potentials that pass their test bound what is still to come, at their offset and at each higher one.
use Rattle.std.proofs.Common.{◌≡◌, ℕ, ◌+◌, ◌-◌, ◌<◌, ◌≤◌, true, false, List, [], ◌∷◌, None, eqb, refl, sym, ap, ◌∙◌, inl, inr, subst, arith}
use Rattle.std.specs.Prelude.{nat_lt}
use Rattle.std.proofs.lemmas.Bool.{cases_eq, cases_lt, eq-eqb, ne_eqb, lt-ltb, le-ltb}
use Rattle.ac_base.specs.declared.runs.Run.{Run}
use Rattle.ac_base.specs.declared.shapes.Shape.{Shape}
use Rattle.ac_base.specs.declared.sizes.Part.{Part}
use Rattle.ac_base.specs.Sigma.{sum_below}
use Rattle.ac_base.proofs.ByRuns.{sum_none, sum_same}
use Rattle.ac_expo.specs.Raw.{channels}
use Rattle.ac_cost.specs.Records.{AtOffset, at_offset}
use Rattle.ac_cost.specs.Runs.{IsRunOf}
use Rattle.ac_cost.specs.Sixths.{run_sixths}
use Rattle.ac_cost.proofs.Pricing.{sixths-rise}
use Rattle.ac_bound.specs.Steps.{kinds_of, between}
use Rattle.ac_bound.proofs.Sums.{sum_split}
use Rattle.ac_seek.specs.declared.step.Step.{Step}
use Rattle.ac_seek.specs.Games.{Game, IsNext}
use Rattle.ac_seek.specs.Trees.{rest}
use Rattle.ac_seek.specs.Words.{game_of, FitsHere}
use Rattle.ac_seek.proofs.Below.{closed-none}
use Rattle.ac_seek.proofs.Paths.{next-run}
use Rattle.ac_seek.proofs.Premises.{IsBound, IsGame}
use Rattle.ac_seek.proofs.Roots.{none-feasible}
use Rattle.ac_seek.proofs.Wholes.{game-strict}
use Rattle.ac_claim.specs.Laws.{EndAtNone, PassedIsBound, ClosedRulesOutAbove}
use Rattle.ac_claim.specs.Potentials.{number_of, run_no, kinds_no, ends_no, starts_no, pots_no, first_part}
use Rattle.ac_claim.proofs.Firsts.{none-each, none-part, of-parts, then-none, le-of}

-- ---- no run costs less than what the potentials fall by
abbrev pub Falls : AtOffset → (ℕ → ℕ → ℕ → ℕ) → Type 0
Falls v pot =
    (c part : ℕ) (run : Run) → part < 3 → IsRunOf v.shape c run → pot c part run.from ≤ run_sixths v.shape v.raw v.t part c run + pot c part run.to

falls-in : (v : AtOffset) (pot : ℕ → ℕ → ℕ → ℕ) (c : ℕ) (run : Run) (part : Part) → pots_no v pot ≡ None → IsRunOf v.shape c run → pot c (number_of part) run.from ≤ run_sixths v.shape v.raw v.t (number_of part) c run + pot c (number_of part) run.to
falls-in v pot c run part ok is =
    let order = is.is_run.order in
    let blocks = is.is_run.blocks in
    let some = is.is_run.some in
    let taken = is.taken in
    let channel = none-each (channels v.shape) (λ k. first_part (starts_no v pot k)) c ok is.channel in
    let in_part = none-part (starts_no v pot c) channel part in
    let from = none-each 6 (ends_no v pot c part) run.from in_part (omega (arith, order, blocks)) in
    let to = none-each (6 - run.from) (λ i. kinds_no v pot c part run.from (run.from + 1 + i)) (run.to - run.from - 1) from (omega (arith, order, blocks)) in
    let end : run.from + 1 + (run.to - run.from - 1) ≡ run.to = omega (arith, order) in
    let here = subst (λ k. kinds_no v pot c part run.from k ≡ None) end to in
    let kind = none-each (kinds_of v.shape c) (λ i. run_no v pot c part (between run.from run.to (i + 1))) (run.kind - 1) here (omega (arith, some, taken)) in
    let same : run.kind - 1 + 1 ≡ run.kind = omega (arith, some) in
    let none = subst (λ k. run_no v pot c part (between run.from run.to k) ≡ None) same kind in
    le-of (pot c (number_of part) run.from) (run_sixths v.shape v.raw v.t (number_of part) c run + pot c (number_of part) run.to) (then-none _ _ none)

pub falls : (v : AtOffset) (pot : ℕ → ℕ → ℕ → ℕ) → pots_no v pot ≡ None → Falls v pot
falls v pot ok c part run l is =
    of-parts (λ q. pot c q run.from ≤ run_sixths v.shape v.raw v.t q c run + pot c q run.to) (λ p. falls-in v pot c run p ok is) part l

pub falls-above : (shape : Shape) (raw : List (List (List ℕ))) (t u : ℕ) (pot : ℕ → ℕ → ℕ → ℕ) → t ≤ u → Falls (at_offset shape raw t) pot → Falls (at_offset shape raw u) pot
falls-above shape raw t u pot l fall c part run p is =
    omega (arith, fall c part run p is, sixths-rise shape raw part c run t u is l)

pub passed-bound : PassedIsBound
passed-bound v pot c part at [] end ok l p way =
    let e = ap (pot c part) way.tiles in omega (arith, e, end c part)
passed-bound v pot c part at (run ∷ runs) end ok l p way =
    let rest = passed-bound v pot c part run.to runs end ok l p (record { tiles = way.tiles.2; each = way.each.1 }) in
    let here = falls v pot ok c part run p way.each.0 in
    let e = ap (pot c part) way.tiles.0 in
    omega (arith, e, rest, here)

-- ---- behind a channel the next one begins
rest-start : (g : Game) (pot : ℕ → ℕ → ℕ → ℕ) (part channel : ℕ) → channel < g.channels → sum_below (g.channels - channel - 1) (λ i. pot (channel + 1 + i) part 0) ≡ rest g pot part (channel + 1) 0
rest-start g pot part channel l = elim (cases_lt (channel + 1) g.channels) [
  | inl more ↦
      let t : nat_lt (channel + 1) g.channels ≡ true = lt-ltb (channel + 1) g.channels more in
      let m = g.channels - (channel + 1) - 1 in
      let f : ℕ → ℕ = λ i. pot (channel + 1 + i) part 0 in
      let e : g.channels - channel - 1 ≡ 0 + 1 + m = omega arith in
      let split = ap (λ n. sum_below n f) e ∙ sum_split 0 m f in
      let first : f 0 ≡ pot (channel + 1) part 0 = ap (λ k. pot k part 0) (omega arith) in
      let later = sum_same m (λ i. f (0 + 1 + i)) (λ i. pot (channel + 1 + 1 + i) part 0) (λ i. ap (λ k. pot k part 0) (omega arith)) in
      rw t (omega (arith, split, first, later, sum_none f))
  | inr none ↦
      let t : nat_lt (channel + 1) g.channels ≡ false = le-ltb (channel + 1) g.channels none in
      let f : ℕ → ℕ = λ i. pot (channel + 1 + i) part 0 in
      let e : g.channels - channel - 1 ≡ 0 = omega arith in
      rw t (ap (λ n. sum_below n f) e ∙ sum_none f)
]

-- within a channel
rest-here : (g : Game) (pot : ℕ → ℕ → ℕ → ℕ) (part channel at : ℕ) → channel < g.channels → rest g pot part channel at ≡ pot channel part at + sum_below (g.channels - channel - 1) (λ i. pot (channel + 1 + i) part 0)
rest-here g pot part channel at l =
    let t : nat_lt channel g.channels ≡ true = lt-ltb channel g.channels l in rw t refl

ends : (all here later cost end next : ℕ) → all ≡ here + later → here ≤ cost + end → end ≤ 0 → later ≡ next → all ≤ cost + next
ends all here later cost end next a b c d = omega arith

goes : (all here later cost there next : ℕ) → all ≡ here + later → here ≤ cost + there → next ≡ there + later → all ≤ cost + next
goes all here later cost there next a b c = omega arith

step-falls : (v : AtOffset) (pot : ℕ → ℕ → ℕ → ℕ) (part channel at : ℕ) (s : Step) → Falls v pot → part < 3 → IsNext (game_of v) channel at s → pot channel part at ≤ (game_of v).cost part s + pot channel part s.run.to
step-falls v pot part channel at s fall p ok =
    let here = fall s.channel part s.run p (next-run v channel at s ok) in
    let from = ap (λ k. pot channel part k) ok.starts in
    let a = ap (λ k. pot k part s.run.from) ok.same in
    let b = ap (λ k. pot k part s.run.to) ok.same in
    omega (arith, here, from, a, b)

pub bound-by : (v : AtOffset) (pot : ℕ → ℕ → ℕ → ℕ) → EndAtNone pot → Falls v pot → IsBound (game_of v) pot
bound-by v pot end fall part channel at s p ok =
    let g = game_of v in
    let down = step-falls v pot part channel at s fall p ok in
    let here = rest-here g pot part channel at ok.inside in
    elim (cases_eq s.run.to 6) [
      | inl e ↦
          let t : eqb s.run.to 6 ≡ true = eq-eqb s.run.to 6 e in
          let zero_end = ap (λ k. pot channel part k) e in
          let start = rest-start g pot part channel ok.inside in
          let next : rest g pot part (s.channel + 1) 0 ≡ rest g pot part (channel + 1) 0 = ap (λ c. rest g pot part (c + 1) 0) ok.same in
          rw t (ends (rest g pot part channel at) (pot channel part at) (sum_below (g.channels - channel - 1) (λ i. pot (channel + 1 + i) part 0)) (g.cost part s) (pot channel part s.run.to) (rest g pot part (s.channel + 1) 0) here down (omega (arith, zero_end, end channel part)) (start ∙ sym next))
      | inr other ↦
          let f : eqb s.run.to 6 ≡ false = ne_eqb s.run.to 6 other in
          let next : rest g pot part s.channel s.run.to ≡ rest g pot part channel s.run.to = ap (λ c. rest g pot part c s.run.to) ok.same in
          let there = rest-here g pot part channel s.run.to ok.inside in
          rw f (goes (rest g pot part channel at) (pot channel part at) (sum_below (g.channels - channel - 1) (λ i. pot (channel + 1 + i) part 0)) (g.cost part s) (pot channel part s.run.to) (rest g pot part s.channel s.run.to) here down (next ∙ there))
    ]

pub game-by : (v : AtOffset) (pot : ℕ → ℕ → ℕ → ℕ) → EndAtNone pot → Falls v pot → IsGame (game_of v) pot (FitsHere v)
game-by v pot end fall = record { bound = bound-by v pot end fall; strict = game-strict v }

pub rules-out : ClosedRulesOutAbove
rules-out shape raw t u pot end ok shut l feasible =
    let v = at_offset shape raw u in
    let game = game-by v pot end (falls-above shape raw t u pot l (falls (at_offset shape raw t) pot ok)) in
    none-feasible v (closed-none (game_of v) pot (FitsHere v) [] game tt shut) feasible
