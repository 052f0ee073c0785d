-- The steps of the loops over kinds and ends, for the three parts side by side.
use Rattle.std.proofs.Common.{◌≡◌, ℕ, ◌+◌, ◌<◌, ◌≤◌, min, List, [], slice_index, slice_index_or, refl, sym, ap, ◌∙◌, subst}
use Rattle.ac_base.specs.declared.runs.Run.{Run}
use Rattle.ac_expo.specs.Raw.{channels}
use Rattle.ac_cost.specs.Records.{AtOffset}
use Rattle.ac_cost.specs.Sixths.{run_sixths, sixths_by_part}
use Rattle.ac_bound.specs.Least.{IsLeast}
use Rattle.ac_bound.specs.Steps.{kinds_of, between, IsKindBelow, IsLeastBetween, IsLeastOn, after_of}
use Rattle.ac_bound.proofs.Leasts.{kinds_first, kinds_more, range_first, range_more}
use Rattle.ac_bound.proofs.Threes.{of_three}

by_part : (v : AtOffset) (c : ℕ) (run : Run) (row : List ℕ) → row ≡ sixths_by_part v.shape v.raw v.t c run → (part : ℕ) → part < 3 → slice_index row part ≡ run_sixths v.shape v.raw v.t part c run
by_part v c run row e part p =
    ap (λ (r : List ℕ). slice_index r part) e
    ∙ of_three (λ q. slice_index (sixths_by_part v.shape v.raw v.t c run) q ≡ run_sixths v.shape v.raw v.t q c run) refl refl refl part p

pub first_kind : (v : AtOffset) (c from to : ℕ) (row : List ℕ) → row ≡ sixths_by_part v.shape v.raw v.t c (between from to 1) → (part : ℕ) → part < 3 → IsLeastBetween v c part from to 2 (slice_index row part)
first_kind v c from to row e part p =
    let f : ℕ → ℕ = λ kind. run_sixths v.shape v.raw v.t part c (between from to kind) in
    subst (IsLeast (IsKindBelow 2) f) (sym (by_part v c (between from to 1) row e part p)) (kinds_first f)

pub next_kind : (v : AtOffset) (c from to n : ℕ) (row so next : List ℕ) → 1 ≤ n → row ≡ sixths_by_part v.shape v.raw v.t c (between from to n) → ((part : ℕ) → part < 3 → IsLeastBetween v c part from to n (slice_index so part)) → ((part : ℕ) → part < 3 → slice_index next part ≡ min (slice_index so part) (slice_index row part)) → (part : ℕ) → part < 3 → IsLeastBetween v c part from to (n + 1) (slice_index next part)
next_kind v c from to n row so next some e is lesser part p =
    let f : ℕ → ℕ = λ kind. run_sixths v.shape v.raw v.t part c (between from to kind) in
    let same : slice_index next part ≡ min (slice_index so part) (f n) = lesser part p ∙ ap (min (slice_index so part)) (by_part v c (between from to n) row e part p) in
    subst (IsLeast (IsKindBelow (n + 1)) f) (sym same) (kinds_more f n (slice_index so part) some (is part p))

module _ (v : AtOffset) (c at : ℕ) (l : c < channels v.shape) (after : List (List ℕ)) where
  abbrev IsLeastTo : ℕ → List ℕ → Type 0
  IsLeastTo to row = (part : ℕ) → part < 3 → IsLeastBetween v c part at to (kinds_of v.shape c + 1) (slice_index row part)

  abbrev IsSum : ℕ → List ℕ → List ℕ → Type 0
  IsSum to row sum = (part : ℕ) → part < 3 → slice_index sum part ≡ slice_index row part + slice_index (slice_index_or after to []) part

  pub first_end : (place : ℕ) (row sum : List ℕ) → at < 6 → place ≡ at + 1 → IsLeastTo (at + 1) row → IsSum place row sum → (part : ℕ) → part < 3 → IsLeastOn v c part at (at + 2) (λ k. after_of after k part) (slice_index sum part)
  first_end place row sum low e is so part p =
      let same : slice_index sum part ≡ slice_index row part + after_of after (at + 1) part = so part p ∙ ap (λ k. slice_index row part + after_of after k part) e in
      subst (IsLeastOn v c part at (at + 2) (λ k. after_of after k part)) (sym same) (range_first v c part at l (λ k. after_of after k part) (slice_index row part) low (is part p))

  pub next_end : (to place : ℕ) (row sum least next : List ℕ) → at < to → to ≤ 6 → place ≡ to → IsLeastTo to row → IsSum place row sum → ((part : ℕ) → part < 3 → IsLeastOn v c part at to (λ k. after_of after k part) (slice_index least part)) → ((part : ℕ) → part < 3 → slice_index next part ≡ min (slice_index least part) (slice_index sum part)) → (part : ℕ) → part < 3 → IsLeastOn v c part at (to + 1) (λ k. after_of after k part) (slice_index next part)
  next_end to place row sum least next order end e is so known lesser part p =
      let sums : slice_index sum part ≡ slice_index row part + after_of after to part = so part p ∙ ap (λ k. slice_index row part + after_of after k part) e in
      let same = lesser part p ∙ ap (min (slice_index least part)) sums in
      subst (IsLeastOn v c part at (to + 1) (λ k. after_of after k part)) (sym same)
      (range_more v c part at l (λ k. after_of after k part) to (slice_index least part) (slice_index row part) order end (known part p) (is part p))
