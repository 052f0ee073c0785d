-- The places of runs and of boundaries.
use Rattle.std.proofs.Common.{◌≡◌, ℕ, zero, suc, ◌+◌, ◌-◌, ◌*◌, ◌^◌, ◌/◌, ◌%◌, ◌<◌, ◌≤◌, List, [], slice_index, slice_index_or, replicate, Option, None, IfSome, refl, sym, ap, ap₂, ◌∙◌, inl, inr, subst, arith}
use Rattle.std.proofs.lemmas.Bool.{cases_lt}
use Rattle.std.proofs.lemmas.List.{get_or-replicate, get_or_past}
use Rattle.ac_base.specs.declared.runs.Run.{Run}
use Rattle.ac_base.specs.declared.shapes.Shape.{Shape}
use Rattle.ac_base.specs.Fit.{side_of, rooms_of}
use Rattle.ac_base.specs.Words.{IsRun}
use Rattle.ac_expo.specs.Raw.{channels}
use Rattle.ac_mant.specs.declared.counts.Counts.{Counts}
use Rattle.ac_cost.specs.Records.{AtOffset}
use Rattle.ac_cost.specs.Runs.{IsRunOf}
use Rattle.ac_cost.specs.Sixths.{part_of, run_sixths, sixths_by_part}
use Rattle.ac_cost.proofs.Assigning.{coded-few}
use Rattle.ac_bound.specs.Ways.{ArePots}
use Rattle.ac_bound.proofs.Threes.{of_three}
use Rattle.ac_seek.specs.declared.step.Step.{Step}
use Rattle.ac_seek.specs.Boards.{place_of, HasCount, AreKnown, AreLimits}
use Rattle.ac_seek.proofs.Ones.{rest-same}

-- there are seven coded channels at most
pub few_coded : (shape : Shape) → channels shape ≤ 7
few_coded shape = coded-few shape

-- the run of a place
abbrev pub run_at : ℕ → Run
run_at place = record { from = place % 42 / 7; to = place % 7; kind = place % 126 / 42 + 1 }

place-channel : (s : Step) (i : ℕ) → IsRun s.run → place_of s ≡ i → i / 126 ≡ s.channel
place-channel s i is e = let o = is.order in let b = is.blocks in let f = is.some in let k = is.kind in omega arith

place-kind : (s : Step) (i : ℕ) → IsRun s.run → place_of s ≡ i → i % 126 / 42 + 1 ≡ s.run.kind
place-kind s i is e = let o = is.order in let b = is.blocks in let f = is.some in let k = is.kind in omega arith

place-from : (s : Step) (i : ℕ) → IsRun s.run → place_of s ≡ i → i % 42 / 7 ≡ s.run.from
place-from s i is e = let o = is.order in let b = is.blocks in let f = is.some in let k = is.kind in omega arith

place-to : (s : Step) (i : ℕ) → IsRun s.run → place_of s ≡ i → i % 7 ≡ s.run.to
place-to s i is e = let o = is.order in let b = is.blocks in let f = is.some in let k = is.kind in omega arith

run-same : (s : Step) (i : ℕ) → IsRun s.run → place_of s ≡ i → run_at i ≡ s.run
run-same s i is e =
    let from = place-from s i is e in
    let to = place-to s i is e in
    let kind = place-kind s i is e in
    λ j. record { from = from j; to = to j; kind = kind j }

-- it is one of those of the coded channels
pub place-inside : (shape : Shape) (s : Step) (i : ℕ) → IsRunOf shape s.channel s.run → place_of s ≡ i → i < 126 * channels shape
place-inside shape s i is e =
    let o = is.is_run.order in let b = is.is_run.blocks in let f = is.is_run.some in let k = is.is_run.kind in let c = is.channel in omega arith

pub run-back : (shape : Shape) (i : ℕ) (s : Step) → IsRunOf shape s.channel s.run → place_of s ≡ i → IsRunOf shape (i / 126) (run_at i)
run-back shape i s is e =
    subst (λ c. IsRunOf shape c (run_at i)) (sym (place-channel s i is.is_run e)) (subst (λ (r : Run). IsRunOf shape s.channel r) (sym (run-same s i is.is_run e)) is)

pub cost-is : (v : AtOffset) (i : ℕ) (row : List ℕ) → row ≡ sixths_by_part v.shape v.raw v.t (i / 126) (run_at i) → (s : Step) (part : ℕ) → IsRunOf v.shape s.channel s.run → part < 3 → place_of s ≡ i → slice_index row part ≡ run_sixths v.shape v.raw v.t part s.channel s.run
cost-is v i row value s part is p e =
    let same = ap₂ (λ (c : ℕ) (r : Run). sixths_by_part v.shape v.raw v.t c r) (place-channel s i is.is_run e) (run-same s i is.is_run e) in
    ap (λ (r : List ℕ). slice_index r part) (value ∙ same)
    ∙ of_three (λ q. slice_index (sixths_by_part v.shape v.raw v.t s.channel s.run) q ≡ run_sixths v.shape v.raw v.t q s.channel s.run) refl refl refl part p

three_zeros : (part : ℕ) → slice_index (replicate 3 0) part ≡ 0
three_zeros zero = refl
three_zeros (suc zero) = refl
three_zeros (suc (suc zero)) = refl
three_zeros (suc (suc (suc part))) = refl

abbrev no_costs : List (List ℕ)
no_costs = replicate 882 (replicate 3 0)

pub row_zero : (place part : ℕ) → slice_index (slice_index_or no_costs place []) part ≤ 2 ^ 19
row_zero place part =
    elim (cases_lt place 882) [
      | inl l ↦
          let e : slice_index_or no_costs place [] ≡ replicate 3 0 = get_or-replicate 882 place (replicate 3 0) [] l in
          let x = ap (λ (r : List ℕ). slice_index r part) e in
          omega (arith, x, three_zeros part)
      | inr l ↦
          let e : slice_index_or no_costs place [] ≡ [] = get_or_past no_costs place [] l in
          let x = ap (λ (r : List ℕ). slice_index r part) e in
          omega (arith, x)
    ]

-- ---- limits by any potentials
pub limits-any : (v : AtOffset) (p q : ℕ → ℕ → ℕ → ℕ) (limits : List (List ℕ)) → ArePots v p → ArePots v q → AreLimits v.shape p limits → AreLimits v.shape q limits
limits-any v p q limits are also h place l channel at part low k e =
    h place l channel at part low k e
    ∙ ap (λ x. 6 * part_of (rooms_of v.shape.words) part + 1 - (6 * part_of (side_of v.shape.acmod v.shape.lfe v.shape.couple) part + x)) (rest-same v p q are also channel at part k (omega arith))

-- nothing is counted yet
abbrev no_counts : List (Option Counts)
no_counts = replicate 882 None

pub none-known : (v : AtOffset) → AreKnown v no_counts
none-known v = record {
  each = λ place. elim (cases_lt place 882) [
    | inl l ↦
        let e : slice_index_or no_counts place None ≡ None = get_or-replicate 882 place None None l in
        subst (λ (o : Option Counts). IfSome o (HasCount v place)) (sym e) tt
    | inr l ↦
        let e : slice_index_or no_counts place None ≡ None = get_or_past no_counts place None l in
        subst (λ (o : Option Counts). IfSome o (HasCount v place)) (sym e) tt
  ];
  long = refl;
}
