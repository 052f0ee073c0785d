-- Lower bounds are below what completes them.
use Rattle.std.proofs.Common.{◌≡◌, ℕ, ◌+◌, ◌-◌, ◌*◌, ◌<◌, ◌≤◌, true, false, inl, inr, List, [], ◌∷◌, ◌++◌, slice_index, refl, sym, ap, ◌∙◌, subst, arith}
use Rattle.std.specs.Prelude.{nat_lt, nat_le}
use Rattle.std.specs.List.{AllByRecursion}
use Rattle.std.proofs.lemmas.Bool.{cases_lt, lt-ltb, le-ltb, leb-true}
use Rattle.std.proofs.lemmas.List.Elements.{recursion_from_All}
use Rattle.ac_base.specs.declared.runs.Run.{Run}
use Rattle.ac_base.specs.declared.shapes.Shape.{Shape}
use Rattle.ac_base.specs.Shape.{full_of}
use Rattle.ac_base.specs.Sigma.{sum_below}
use Rattle.ac_base.specs.Words.{IsStretch, Tile, runs_of, word_of}
use Rattle.ac_base.proofs.ByRuns.{sum_none}
use Rattle.ac_base.proofs.Stretches.{tile, are_stretches}
use Rattle.ac_base.proofs.Tests.{all_below-at}
use Rattle.ac_expo.specs.Raw.{channels}
use Rattle.ac_cost.specs.Parts.{parts_at}
use Rattle.ac_cost.specs.Records.{at_offset}
use Rattle.ac_cost.specs.Runs.{IsRunOf, IsAssignmentOf}
use Rattle.ac_cost.specs.Sixths.{part_of, runs_sixths}
use Rattle.ac_cost.proofs.Bounding.{within}
use Rattle.ac_bound.specs.declared.bounds.Partial.{Partial}
use Rattle.ac_bound.specs.Ways.{IsWay, IsWordOf, ArePots}
use Rattle.ac_bound.specs.Bounds.{lower_of, nothing, Completes}
use Rattle.ac_bound.specs.Laws.{LowerIsBelow}
use Rattle.ac_bound.proofs.Sums.{sum_rises, sum_split}
use Rattle.ac_bound.proofs.Threes.{of_three}

-- ---- the runs of words are ways
module _ (shape : Shape) (c : ℕ) (l : c < channels shape) (word : List ℕ) (is : IsWordOf shape c word) where
  run_is : (run : Run) → IsStretch word run → IsRunOf shape c run
  run_is run stretch =
      let early : run.from < 6 = omega (arith, stretch.order, stretch.blocks) in
      record {
        channel = l;
        is_run = record {
          order = stretch.order;
          blocks = stretch.blocks;
          some = omega (arith, stretch.kind, stretch.sends);
          kind = omega (arith, stretch.kind, is.is_word.small run.from early);
        };
        taken = omega (arith, stretch.kind, is.kinds run.from early);
      }

  runs_are : (runs : List Run) → AllByRecursion (IsStretch word) runs → AllByRecursion (IsRunOf shape c) runs
  runs_are [] all = tt
  runs_are (run ∷ runs) all = (run_is run all.0, runs_are runs all.1)

  pub each_run : AllByRecursion (IsRunOf shape c) (runs_of word)
  each_run = runs_are (runs_of word) (recursion_from_All (IsStretch word) (runs_of word) (are_stretches word is.is_word))

  pub word_way : IsWay shape c 0 (runs_of word)
  word_way = record { tiles = tile word is.is_word; each = each_run }

word_in : (shape : Shape) (assign : List (List ℕ)) (c : ℕ) → IsAssignmentOf shape assign → c < channels shape → IsWordOf shape c (word_of assign c)
word_in shape assign c is l = record { is_word = is.words c l; kinds = λ block b. is.kinds c block l b }

all-later : {X : Type 0} (P : X → Type 0) (xs ys : List X) → AllByRecursion P (xs ++ ys) → AllByRecursion P ys
all-later P [] ys all = all
all-later P (x ∷ xs) ys all = all-later P xs ys all.1

sixths-both : (shape : Shape) (raw : List (List (List ℕ))) (t part c : ℕ) (xs ys : List Run) → runs_sixths shape raw t part c (xs ++ ys) ≡ runs_sixths shape raw t part c xs + runs_sixths shape raw t part c ys
sixths-both shape raw t part c [] ys = omega arith
sixths-both shape raw t part c (run ∷ xs) ys = omega (arith, sixths-both shape raw t part c xs ys)

tile-le : (from to : ℕ) (runs : List Run) → Tile from to runs → from ≤ to
tile-le from to [] tiles = omega (arith, tiles)
tile-le from to (run ∷ runs) tiles = omega (arith, tiles.0, tiles.1, tile-le run.to to runs tiles.2)

-- a channel is in hand
lower-inside : (shape : Shape) (raw : List (List (List ℕ))) (t part : ℕ) (pot : ℕ → ℕ → ℕ → ℕ) (partial : Partial) (assign : List (List ℕ)) → ArePots (at_offset shape raw t) pot → IsAssignmentOf shape assign → part < 3 → partial.done < channels shape → Completes shape raw t partial assign → lower_of shape pot partial part ≤ 6 * part_of (parts_at shape raw t assign) part
lower-inside shape raw t part pot partial assign are is p l so =
    let n = channels shape in
    let done = partial.done in
    let f : ℕ → ℕ = λ c. runs_sixths shape raw t part c (runs_of (word_of assign c)) in
    let m = n - done - 1 in
    let least = (are done part partial.at l p (tile-le partial.at 6 so.later (so.tiles l))).least so.later
    (record { tiles = (so.tiles l); each = all-later (IsRunOf shape done) so.decided so.later (subst (AllByRecursion (IsRunOf shape done)) (so.runs l) (each_run shape done l (word_of assign done) (word_in shape assign done is l))) }) in
    let here : f done ≡ runs_sixths shape raw t part done so.decided + runs_sixths shape raw t part done so.later =
    ap (runs_sixths shape raw t part done) (so.runs l) ∙ sixths-both shape raw t part done so.decided so.later in
    let later = sum_rises m (λ i. pot (done + 1 + i) part 0) (λ i. f (done + 1 + i))
    (λ i k. let c : done + 1 + i < n = omega arith in (are (done + 1 + i) part 0 c p (omega arith)).least (runs_of (word_of assign (done + 1 + i))) (word_way shape (done + 1 + i) c (word_of assign (done + 1 + i)) (word_in shape assign (done + 1 + i) is c))) in
    let e : done + 1 + m ≡ n = omega arith in
    let all : sum_below n f ≡ sum_below (done + 1 + m) f = ap (λ k. sum_below k f) (sym e) in
    let split = sum_split done m f in
    let t3 : nat_lt done n ≡ true = lt-ltb done n l in
    let spent = so.spent part p in
    let bits = within shape raw t part assign is in
    rw t3 (omega (arith, least, here, later, all, split, spent, bits))

-- all channels are whole
lower-whole : (shape : Shape) (raw : List (List (List ℕ))) (t part : ℕ) (pot : ℕ → ℕ → ℕ → ℕ) (partial : Partial) (assign : List (List ℕ)) → IsAssignmentOf shape assign → part < 3 → partial.done ≡ channels shape → Completes shape raw t partial assign → lower_of shape pot partial part ≤ 6 * part_of (parts_at shape raw t assign) part
lower-whole shape raw t part pot partial assign is p e so =
    let f : ℕ → ℕ = λ c. runs_sixths shape raw t part c (runs_of (word_of assign c)) in
    let all : sum_below partial.done f ≡ sum_below (channels shape) f = ap (λ k. sum_below k f) e in
    let none : runs_sixths shape raw t part partial.done so.decided ≡ 0 = ap (runs_sixths shape raw t part partial.done) (so.whole e) in
    let f3 : nat_lt partial.done (channels shape) ≡ false = le-ltb partial.done (channels shape) (omega (arith, e)) in
    let spent = so.spent part p in
    let bits = within shape raw t part assign is in
    rw f3 (omega (arith, all, none, spent, bits))

pub lower-below : LowerIsBelow
lower-below shape raw t part pot partial assign are is p l so =
    elim (cases_lt partial.done (channels shape)) [
      | inl inside ↦ lower-inside shape raw t part pot partial assign are is p inside so
      | inr past ↦ lower-whole shape raw t part pot partial assign is p (omega arith) so
    ]

-- ---- nothing is decided
pub full-some : (acmod : ℕ) → acmod ≤ 7 → 1 ≤ acmod → 1 ≤ full_of acmod
full-some acmod l some = leb-true _ _ (all_below-at 8 (λ k. nat_le 1 (full_of k)) refl acmod (omega arith))

pub some-channel : (shape : Shape) → 0 < channels shape
some-channel shape = omega (arith, full-some shape.acmod shape.channels shape.some_channel)

pub nothing-completes : (shape : Shape) (raw : List (List (List ℕ))) (t : ℕ) (assign : List (List ℕ)) → IsAssignmentOf shape assign → Completes shape raw t nothing assign
nothing-completes shape raw t assign is = record {
  decided = [];
  later = runs_of (word_of assign 0);
  runs = λ l. refl;
  tiles = λ l. tile (word_of assign 0) (is.words 0 l);
  whole = λ e. refl;
  spent = λ part p.
      let z = sum_none (λ c. runs_sixths shape raw t part c (runs_of (word_of assign c))) in
      let here : slice_index (0 ∷ 0 ∷ 0 ∷ []) part ≡ 0 = of_three (λ q. slice_index (0 ∷ 0 ∷ 0 ∷ []) q ≡ 0) refl refl refl part p in
      omega (arith, z, here);
}
