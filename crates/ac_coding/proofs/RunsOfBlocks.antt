-- The run of a coded channel that has a block.
use Rattle.std.proofs.Common.{◌≡◌, ℕ, ◌+◌, ◌<◌, ◌≤◌, List, [], ◌∷◌, slice_index, refl, ap, ◌∙◌, inl, inr, subst, arith}
use Rattle.std.specs.List.{AllByRecursion}
use Rattle.std.proofs.lemmas.Bool.{cases_lt}
use Rattle.std.proofs.lemmas.List.Elements.{recursion_from_All}
use Rattle.ac_base.specs.declared.runs.Run.{Run}
use Rattle.ac_base.specs.declared.shapes.Shape.{Shape}
use Rattle.ac_base.specs.Words.{IsStretch, Tile, runs_of, word_of}
use Rattle.ac_base.proofs.Stretches.{tile, are_stretches}
use Rattle.ac_expo.specs.Raw.{channels}
use Rattle.ac_cost.specs.Runs.{IsRunOf, IsAssignmentOf, run_with}
use Rattle.ac_cost.proofs.Assigning.{run-of}
use Rattle.ac_cost.proofs.Covering.{has-in, has-after, one-of}
use Rattle.ac_coding.specs.Values.{run_at}

found : (runs : List Run) (from to b : ℕ) → Tile from to runs → from ≤ b → b < to → ((run_with runs b).from ≤ b) × (b < (run_with runs b).to)
found [] from to b tile l m = absurd (omega (arith, tile))
found (run ∷ runs) from to b tile l m =
    elim (cases_lt b run.to) [
      | inl here ↦ let e = has-in run b (omega (arith, tile.0)) here in rw e (omega (arith, tile.0, l), here)
      | inr later ↦ let e = has-after run b later in rw e (found runs run.to to b tile.2 later m)
    ]

same_in : (codes : List ℕ) (runs : List Run) (from b : ℕ) → Tile from 6 runs → AllByRecursion (IsStretch codes) runs → from ≤ b → b < 5 → slice_index codes (b + 1) ≡ 0 → run_with runs (b + 1) ≡ run_with runs b
same_in codes [] from b tile all l m code = absurd (omega (arith, tile))
same_in codes (run ∷ runs) from b tile all l m code =
    elim (cases_lt b run.to) [
      | inl here ↦
          elim (cases_lt (b + 1) run.to) [
            | inl more ↦
                let e = has-in run (b + 1) (omega (arith, tile.0, l)) more in
                let f = has-in run b (omega (arith, tile.0, l)) here in
                rw (e, f) refl
            | inr last ↦
                let same : run.to ≡ b + 1 = omega (arith, here, last) in
                let sends : 1 ≤ slice_index codes (b + 1) = subst (λ (i : ℕ). 1 ≤ slice_index codes i) same (all.0.longest (omega (arith, same, m))) in
                absurd (omega (arith, sends, code))
          ]
      | inr later ↦
          let e = has-after run (b + 1) (omega (arith, later)) in
          let f = has-after run b later in
          rw (e, f) (same_in codes runs run.to b tile.2 all.1 later m code)
    ]

-- ---- of an assignment
pub run_is : (shape : Shape) (assign : List (List ℕ)) (c b : ℕ) → IsAssignmentOf shape assign → c < channels shape → b < 6 → IsRunOf shape c (run_at assign c b)
run_is shape assign c b is lt in_frame = run-of shape assign c b is lt in_frame

pub run_has : (shape : Shape) (assign : List (List ℕ)) (c b : ℕ) → IsAssignmentOf shape assign → c < channels shape → b < 6 → ((run_at assign c b).from ≤ b) × (b < (run_at assign c b).to)
run_has shape assign c b is lt in_frame = found (runs_of (word_of assign c)) 0 6 b (tile (word_of assign c) (is.words c lt)) (omega arith) in_frame

-- a block that reuses exponents has the run of the block before
pub run_kept : (shape : Shape) (assign : List (List ℕ)) (c b : ℕ) → IsAssignmentOf shape assign → c < channels shape → b < 5 → slice_index (word_of assign c) (b + 1) ≡ 0 → run_at assign c (b + 1) ≡ run_at assign c b
run_kept shape assign c b is lt in_frame code =
    let word = word_of assign c in
    let ok = is.words c lt in
    same_in word (runs_of word) 0 b (tile word ok) (recursion_from_All (IsStretch word) (runs_of word) (are_stretches word ok)) (omega arith) in_frame code

-- and one that sends exponents has a run of its code
pub run_sends : (shape : Shape) (assign : List (List ℕ)) (c b : ℕ) → IsAssignmentOf shape assign → c < channels shape → b < 6 → 0 < slice_index (word_of assign c) b → (run_at assign c b).kind ≡ slice_index (word_of assign c) b
run_sends shape assign c b is lt in_frame sends =
    let word = word_of assign c in
    let ok = is.words c lt in
    let has = run_has shape assign c b is lt in_frame in
    let stretch : IsStretch word (run_at assign c b) = one-of (IsStretch word) (runs_of word) 0 6 b (tile word ok) (recursion_from_All (IsStretch word) (runs_of word) (are_stretches word ok)) (omega arith) in_frame in
    elim (cases_lt (run_at assign c b).from b) [
      | inl earlier ↦ absurd (omega (arith, stretch.reuses b earlier has.1, sends))
      | inr late ↦
          let first : (run_at assign c b).from ≡ b = omega (arith, has.0, late) in
          stretch.kind ∙ ap (slice_index word) first
    ]
