-- Of the runs of a word one alone has a block.
use Rattle.std.proofs.Common.{◌≡◌, ℕ, zero, suc, ◌+◌, ◌<◌, ◌≤◌, Bool, true, false, List, [], ◌∷◌, refl, sym, ap, ◌∙◌, inl, inr, arith}
use Rattle.std.specs.Prelude.{if◌then◌else◌, nat_lt, nat_le, ◌&&◌}
use Rattle.std.proofs.Common.{length, slice_index_or}
use Rattle.std.specs.List.{AllByRecursion}
use Rattle.ac_base.proofs.Stretches.{tile}
use Rattle.std.proofs.lemmas.Bool.{cases_lt}
use Rattle.std.proofs.lemmas.Bool.Decides.{nat_tests}
use Rattle.ac_base.specs.declared.runs.Run.{Run}
use Rattle.ac_base.specs.Sigma.{sum_below}
use Rattle.ac_base.specs.Words.{Tile}
use Rattle.ac_base.proofs.ByRuns.{sum_more, sum_none, sum_both, sum_zero}
use Rattle.ac_cost.specs.Runs.{has, run_with}
use Rattle.ac_cost.specs.Sixths.{in_blocks}

and_false : (a : Bool) → (a && false) ≡ false
and_false true = refl
and_false false = refl

pub has-before : (run : Run) (b : ℕ) → b < run.from → has run b ≡ false
has-before run b l = let p : nat_le run.from b ≡ false = grind (arith, nat_tests) in rw p refl

pub has-after : (run : Run) (b : ℕ) → run.to ≤ b → has run b ≡ false
has-after run b l = let p : nat_lt b run.to ≡ false = grind (arith, nat_tests) in rw p (and_false (nat_le run.from b))

pub has-in : (run : Run) (b : ℕ) → run.from ≤ b → b < run.to → has run b ≡ true
has-in run b l m =
    let p : nat_le run.from b ≡ true = grind (arith, nat_tests) in
    let q : nat_lt b run.to ≡ true = grind (arith, nat_tests) in
    rw (p, q) refl

-- the sum over a list of runs
abbrev pub total : (Run → ℕ) → List Run → ℕ
total f [] = 0
total f (run ∷ runs) = f run + total f runs

-- over those that have a block
abbrev pub at : (Run → ℕ) → ℕ → List Run → ℕ
at f b runs = total (λ run. if has run b then f run else 0) runs

none-before : (f : Run → ℕ) (runs : List Run) (from to b : ℕ) → Tile from to runs → b < from → at f b runs ≡ 0
none-before f [] from to b tile l = refl
none-before f (run ∷ runs) from to b tile l =
    let e = has-before run b (omega (arith, tile.0)) in
    rw e (omega (arith, none-before f runs run.to to b tile.2 (omega (arith, tile.1))))

pub one-at : (f : Run → ℕ) (runs : List Run) (from to b : ℕ) → Tile from to runs → from ≤ b → b < to → at f b runs ≡ f (run_with runs b)
one-at f [] from to b tile l m = absurd (omega (arith, tile))
one-at f (run ∷ runs) from to b tile l m =
    elim (cases_lt b run.to) [
      | inl here ↦
          let e = has-in run b (omega (arith, tile.0)) here in
          rw e (omega (arith, none-before f runs run.to to b tile.2 here))
      | inr later ↦
          let e = has-after run b later in
          rw e (omega (arith, one-at f runs run.to to b tile.2 later m))
    ]

pub one-of : (P : Run → Type 0) (runs : List Run) (from to b : ℕ) → Tile from to runs → AllByRecursion P runs → from ≤ b → b < to → P (run_with runs b)
one-of P [] from to b tile all l m = absurd (omega (arith, tile))
one-of P (run ∷ runs) from to b tile all l m =
    elim (cases_lt b run.to) [
      | inl here ↦ let e = has-in run b (omega (arith, tile.0)) here in rw e all.0
      | inr later ↦ let e = has-after run b later in rw e (one-of P runs run.to to b tile.2 all.1 later m)
    ]

-- the sum over the runs of their blocks is that over the blocks of their runs
pub by-blocks : (f : Run → ℕ) (n : ℕ) (runs : List Run) → total (λ run. in_blocks n run (f run)) runs ≡ sum_below n (λ b. at f b runs)
by-blocks f n [] = sym (sum_zero n)
by-blocks f n (run ∷ runs) =
    let both = sum_both n (λ b. if has run b then f run else 0) (λ b. at f b runs) in
    omega (arith, by-blocks f n runs, both)

-- sums whose terms are the same below the bound
pub sum_same-below : (n : ℕ) (f g : ℕ → ℕ) → ((k : ℕ) → k < n → f k ≡ g k) → sum_below n f ≡ sum_below n g
sum_same-below zero f g e = sum_none f ∙ sym (sum_none g)
sum_same-below (suc n) f g e =
    omega (arith, sum_more n f, sum_more n g, sum_same-below n f g (λ k l. e k (omega arith)), e n (omega arith))

pub total-same : (f g : Run → ℕ) (runs : List Run) → ((run : Run) → f run ≡ g run) → total f runs ≡ total g runs
total-same f g [] e = refl
total-same f g (run ∷ runs) e = omega (arith, e run, total-same f g runs e)

-- ---- the blocks of a run, one by one
pub blocks-none : (run : Run) (cost : ℕ) → in_blocks 0 run cost ≡ 0
blocks-none run cost = sum_none (λ b. if has run b then cost else 0)

pub blocks-more : (n : ℕ) (run : Run) (cost : ℕ) → (has run n ≡ true → in_blocks (n + 1) run cost ≡ in_blocks n run cost + cost) × (has run n ≡ false → in_blocks (n + 1) run cost ≡ in_blocks n run cost)
blocks-more n run cost =
    let f : ℕ → ℕ = λ b. if has run b then cost else 0 in
    let e : n + 1 ≡ suc n = omega arith in
    let more : in_blocks (n + 1) run cost ≡ in_blocks n run cost + f n = ap (λ m. sum_below m f) e ∙ sum_more n f in (
      λ there. more ∙ ap (λ t. in_blocks n run cost + (if t then cost else 0)) there,
      λ missing. more ∙ (ap (λ t. in_blocks n run cost + (if t then cost else 0)) missing ∙ (omega arith)),
    )

-- ---- the first run that has a block
pub first-has : (runs : List Run) (b i : ℕ) (d : Run) → i < length runs → ((j : ℕ) → j < i → has (slice_index_or runs j d) b ≡ false) → has (slice_index_or runs i d) b ≡ true → run_with runs b ≡ slice_index_or runs i d
first-has [] b i d l before here = absurd (omega arith)
first-has (run ∷ runs) b zero d l before here = rw here refl
first-has (run ∷ runs) b (suc i) d l before here =
    let no : has run b ≡ false = before 0 (omega arith) in
    rw no (first-has runs b i d (omega arith) (λ j m. before (suc j) (omega arith)) here)

pub none-has : (runs : List Run) (b : ℕ) (d : Run) → ((j : ℕ) → j < length runs → has (slice_index_or runs j d) b ≡ false) → run_with runs b ≡ record { from = 0; to = 0; kind = 0 }
none-has [] b d none = refl
none-has (run ∷ runs) b d none =
    let no : has run b ≡ false = none 0 (omega arith) in
    rw no (none-has runs b d (λ j m. none (suc j) (omega arith)))
