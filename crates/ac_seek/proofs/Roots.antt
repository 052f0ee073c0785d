-- Each assignment is a whole one of the tree.
use Rattle.std.proofs.Common.{◌≡◌, ℕ, zero, suc, ◌+◌, ◌<◌, ◌≤◌, true, false, List, [], ◌∷◌, ◌++◌, eqb, refl, sym, ap, ◌∙◌, inl, inr, subst, arith}
use Rattle.std.specs.Prelude.{◌==◌}
use Rattle.std.proofs.lemmas.Bool.{cases_eq, eq-eqb, ne_eqb}
use Rattle.ac_base.specs.declared.runs.Run.{Run}
use Rattle.ac_base.specs.Words.{runs_of, word_of}
use Rattle.ac_expo.specs.Raw.{channels}
use Rattle.ac_cost.specs.Parts.{FitsAt, IsFeasible}
use Rattle.ac_cost.specs.Records.{AtOffset}
use Rattle.ac_cost.specs.Runs.{IsAssignmentOf}
use Rattle.ac_cost.proofs.Assigning.{coded-few}
use Rattle.ac_bound.specs.Ways.{IsWordOf}
use Rattle.ac_bound.specs.Ways as ways
use Rattle.ac_bound.proofs.Completing.{word_way}
use Rattle.ac_seek.specs.declared.step.Step.{Step}
use Rattle.ac_seek.specs.Games.{IsNext, IsWay, onto}
use Rattle.ac_seek.specs.Words.{game_of, words_of, NoneFits}
use Rattle.ac_seek.proofs.Codes.{runs_in, word-is, word-of}
use Rattle.ac_seek.proofs.Sames.{fits_same}
use Rattle.ac_seek.proofs.Wholes.{none-in}

-- the runs of a channel
abbrev tagged : ℕ → List Run → List Step
tagged c [] = []
tagged c (run ∷ runs) = record { channel = c; run = run } ∷ tagged c runs

-- those of m channels from one on
abbrev steps_of : List (List ℕ) → ℕ → ℕ → List Step
steps_of assign c zero = []
steps_of assign c (suc m) = tagged c (runs_of (word_of assign c)) ++ steps_of assign (c + 1) m

same-in : (c : ℕ) (runs : List Run) (later : List Step) → runs_in c (tagged c runs ++ later) ≡ runs ++ runs_in c later
same-in c [] later = refl
same-in c (run ∷ runs) later =
    let t : (c == c) ≡ true = eq-eqb c c refl in rw t (ap (λ (rs : List Run). run ∷ rs) (same-in c runs later))

other-in : (c k : ℕ) (runs : List Run) (later : List Step) → (c ≡ k → ⊥) → runs_in k (tagged c runs ++ later) ≡ runs_in k later
other-in c k [] later ne = refl
other-in c k (run ∷ runs) later ne = let f : (c == k) ≡ false = ne_eqb c k ne in rw f (other-in c k runs later ne)

append-none : (runs : List Run) → runs ++ [] ≡ runs
append-none [] = refl
append-none (run ∷ runs) = ap (λ (rs : List Run). run ∷ rs) (append-none runs)

module _ (v : AtOffset) where
  next-is : (c at : ℕ) (run : Run) (runs : List Run) → c < channels v.shape → ways.IsWay v.shape c at (run ∷ runs) → IsNext (game_of v) c at (record { channel = c; run = run })
  next-is c at run runs l is = record {
    inside = l;
    same = refl;
    starts = is.tiles.0;
    later = is.tiles.1;
    ends = is.each.0.is_run.blocks;
    some_kind = is.each.0.is_run.some;
    kind = is.each.0.taken;
  }

  way-tagged : (c at : ℕ) (runs : List Run) (later : List Step) → c < channels v.shape → at < 6 → ways.IsWay v.shape c at runs → IsWay (game_of v) (c + 1) 0 later → IsWay (game_of v) c at (tagged c runs ++ later)
  way-tagged c at [] later l low is w = absurd (omega (arith, is.tiles))
  way-tagged c at (run ∷ []) later l low is w =
      let t : eqb run.to 6 ≡ true = eq-eqb run.to 6 is.tiles.2 in
      (next-is c at run [] l is, rw t w)
  way-tagged c at (run ∷ next ∷ runs) later l low is w =
      let f : eqb run.to 6 ≡ false = ne_eqb run.to 6 (λ e. omega (arith, e, is.tiles.2.1, is.each.1.0.is_run.blocks)) in
      let rest : ways.IsWay v.shape c run.to (next ∷ runs) = record { tiles = is.tiles.2; each = is.each.1 } in
      let more = way-tagged c run.to (next ∷ runs) later l (omega (arith, is.tiles.2.1, is.each.1.0.is_run.blocks)) rest w in
      (next-is c at run (next ∷ runs) l is, rw f more)

  module _ (assign : List (List ℕ)) (is : IsAssignmentOf v.shape assign) where
    word-in : (c : ℕ) → c < channels v.shape → IsWordOf v.shape c (word_of assign c)
    word-in c l = record { is_word = is.words c l; kinds = λ block b. is.kinds c block l b }

    way-all : (c m : ℕ) → c + m ≡ channels v.shape → IsWay (game_of v) c 0 (steps_of assign c m)
    way-all c zero e = omega (arith, e)
    way-all c (suc m) e =
        let l : c < channels v.shape = omega (arith, e) in
        way-tagged c 0 (runs_of (word_of assign c)) (steps_of assign (c + 1) m) l (omega arith) (word_way v.shape c l (word_of assign c) (word-in c l)) (way-all (c + 1) m (omega (arith, e)))

    runs-all : (c m k : ℕ) → c + m ≡ channels v.shape → c ≤ k → k < c + m → runs_in k (steps_of assign c m) ≡ runs_of (word_of assign k)
    runs-all c zero k e l m = absurd (omega arith)
    runs-all c (suc m) k e l less =
        let later = steps_of assign (c + 1) m in
        elim (cases_eq c k) [
          | inl here ↦
              let none = none-in v c (c + 1) 0 later (omega arith) (way-all (c + 1) m (omega (arith, e))) in
              let all = same-in c (runs_of (word_of assign c)) later ∙ (ap (λ (rs : List Run). runs_of (word_of assign c) ++ rs) none ∙ append-none (runs_of (word_of assign c))) in
              subst (λ x. runs_in x (steps_of assign c (suc m)) ≡ runs_of (word_of assign x)) here all
          | inr other ↦
              other-in c k (runs_of (word_of assign c)) later other ∙ runs-all (c + 1) m k (omega (arith, e)) (omega arith) (omega arith)
        ]

    all-fits : FitsAt v.shape v.raw v.t assign → NoneFits v [] → ⊥
    all-fits fits none =
        let n = channels v.shape in
        let e : 0 + n ≡ n = omega arith in
        let steps = steps_of assign 0 n in
        let same : (c : ℕ) → c < n → word_of assign c ≡ word_of (words_of (onto [] steps)) c = λ c l.
        sym (word-of (onto [] steps) c (omega (arith, l, coded-few v.shape)) ∙ word-is steps c (word_of assign c) (is.words c l) (runs-all 0 n c e (omega arith) (omega arith))) in
        none steps (way-all 0 n e) (fits_same v.shape v.raw v.t assign (words_of (onto [] steps)) same fits)

pub none-feasible : (v : AtOffset) → NoneFits v [] → IsFeasible v.shape v.raw v.t → ⊥
none-feasible v none feasible = all-fits v feasible.assign feasible.is_assignment feasible.fits none
