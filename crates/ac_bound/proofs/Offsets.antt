-- What is closed stays closed as the offset rises, and nothing that fits is closed.
use Rattle.std.proofs.Common.{◌≡◌, ℕ, zero, suc, ◌+◌, ◌-◌, ◌<◌, ◌≤◌, Bool, true, false, List, [], ◌∷◌, ◌++◌, length, replicate, slice_index, slice_index_or, refl, ap, ◌∙◌, inl, inr, arith}
use Rattle.std.specs.Prelude.{nat_lt, if◌then◌else◌}
use Rattle.std.specs.List.{AllByRecursion}
use Rattle.std.proofs.lemmas.Bool.{cases_lt}
use Rattle.std.proofs.Math.ListN.{get_or-append, length-replicate}
use Rattle.std.proofs.lemmas.List.{get_or-append_right, get_or-replicate}
use Rattle.ac_base.specs.declared.runs.Run.{Run}
use Rattle.ac_base.specs.declared.shapes.Shape.{Shape}
use Rattle.ac_base.specs.Fit.{rooms_of}
use Rattle.ac_base.specs.Shape.{coded_of}
use Rattle.ac_base.specs.Sigma.{sum_below}
use Rattle.ac_base.specs.Words.{low_word, word_of}
use Rattle.ac_base.proofs.Assignments.{uniform}
use Rattle.ac_expo.specs.Raw.{channels}
use Rattle.ac_cost.specs.Records.{at_offset}
use Rattle.ac_cost.specs.Runs.{IsRunOf, IsAssignmentOf}
use Rattle.ac_cost.specs.Parts.{parts_at, FitsAt, cheapest_assign}
use Rattle.ac_cost.specs.Sixths.{part_of, runs_sixths}
use Rattle.ac_cost.proofs.Pricing.{sixths-rise}
use Rattle.ac_bound.specs.Ways.{ArePots, IsLeastFrom}
use Rattle.ac_bound.specs.Bounds.{lower_of, rest_of, nothing, IsOver}
use Rattle.ac_bound.specs.Roots.{IsClosed}
use Rattle.ac_bound.specs.Laws.{ClosedStays, FeasibleIsBelowRoot}
use Rattle.ac_bound.proofs.Completing.{lower-below, nothing-completes, some-channel}
use Rattle.ac_bound.proofs.Onward.{least_value, least_value-is}
use Rattle.ac_bound.proofs.Sums.{sum_rises, chosen}
use Rattle.ac_bound.proofs.Threes.{of_three}

runs_rise : (shape : Shape) (raw : List (List (List ℕ))) (part c : ℕ) (runs : List Run) (t u : ℕ) → AllByRecursion (IsRunOf shape c) runs → t ≤ u → runs_sixths shape raw t part c runs ≤ runs_sixths shape raw u part c runs
runs_rise shape raw part c [] t u all l = omega arith
runs_rise shape raw part c (run ∷ runs) t u all l =
    omega (arith, sixths-rise shape raw part c run t u all.0 l, runs_rise shape raw part c runs t u all.1 l)

least_rises : (shape : Shape) (raw : List (List (List ℕ))) (part c at : ℕ) (t u m n : ℕ) → t ≤ u → IsLeastFrom (at_offset shape raw t) c part at m → IsLeastFrom (at_offset shape raw u) c part at n → m ≤ n
least_rises shape raw part c at t u m n l a b =
    omega (arith, b.met, a.least b.one b.is_one, runs_rise shape raw part c b.one t u b.is_one.each l)

pub pots-exist : (shape : Shape) (raw : List (List (List ℕ))) (t : ℕ) → ArePots (at_offset shape raw t) (λ c part at. least_value (at_offset shape raw t) c part 6 at)
pots-exist shape raw t c part at l p m = least_value-is (at_offset shape raw t) c part 6 at l m (omega arith)

lower_rises : (shape : Shape) (raw : List (List (List ℕ))) (t u : ℕ) (p q : ℕ → ℕ → ℕ → ℕ) (part : ℕ) → t ≤ u → part < 3 → ArePots (at_offset shape raw t) p → ArePots (at_offset shape raw u) q → lower_of shape p nothing part ≤ lower_of shape q nothing part
lower_rises shape raw t u p q part l k a b =
    let n = channels shape in
    let some = some-channel shape in
    let first : p 0 part 0 ≤ q 0 part 0 = least_rises shape raw part 0 0 t u (p 0 part 0) (q 0 part 0) l (a 0 part 0 some k (omega arith)) (b 0 part 0 some k (omega arith)) in
    let later = sum_rises (n - 0 - 1) (λ i. p (0 + 1 + i) part 0) (λ i. q (0 + 1 + i) part 0)
    (λ i m. let c : 0 + 1 + i < n = omega arith in least_rises shape raw part (0 + 1 + i) 0 t u (p (0 + 1 + i) part 0) (q (0 + 1 + i) part 0) l (a (0 + 1 + i) part 0 c k (omega arith)) (b (0 + 1 + i) part 0 c k (omega arith))) in
    let rest : rest_of shape p 0 0 part ≤ rest_of shape q 0 0 part =
    chosen (nat_lt 0 n) (p 0 part 0 + sum_below (n - 0 - 1) (λ i. p (0 + 1 + i) part 0)) 0 (q 0 part 0 + sum_below (n - 0 - 1) (λ i. q (0 + 1 + i) part 0)) 0 (omega (arith, first, later)) (omega arith) in
    omega (arith, rest)

-- whichever potentials of the offset are taken
pub over_rises : (shape : Shape) (raw : List (List (List ℕ))) (t u : ℕ) (p q : ℕ → ℕ → ℕ → ℕ) → t ≤ u → ArePots (at_offset shape raw t) p → ArePots (at_offset shape raw u) q → IsOver shape (lower_of shape p nothing) → IsOver shape (lower_of shape q nothing)
over_rises shape raw t u p q l a b over = record {
  part = over.part;
  is_part = over.is_part;
  over = let r = lower_rises shape raw t u p q over.part l over.is_part a b in let o = over.over in omega (arith, r, o);
}

pub closed_stays : ClosedStays
closed_stays shape raw t u l is =
    let q : ℕ → ℕ → ℕ → ℕ = λ c part at. least_value (at_offset shape raw u) c part 6 at in
    let are = pots-exist shape raw u in
    record { pot = q; are = are; over = over_rises shape raw t u is.pot q l is.are are is.over }

pub fit-part : (shape : Shape) (raw : List (List (List ℕ))) (t : ℕ) (assign : List (List ℕ)) → FitsAt shape raw t assign → (part : ℕ) → part < 3 → part_of (parts_at shape raw t assign) part ≤ part_of (rooms_of shape.words) part
fit-part shape raw t assign fits =
    of_three (λ part. part_of (parts_at shape raw t assign) part ≤ part_of (rooms_of shape.words) part) fits.in_front fits.whole (let e = fits.at_end in omega (arith, e))

-- an assignment that fits leaves its offset open
pub fits_open : (shape : Shape) (raw : List (List (List ℕ))) (t : ℕ) (assign : List (List ℕ)) → IsAssignmentOf shape assign → FitsAt shape raw t assign → IsClosed shape raw t → ⊥
fits_open shape raw t assign is fits closed =
    let part = closed.over.part in
    let p = closed.over.is_part in
    let low = lower-below shape raw t part closed.pot nothing assign closed.are is p (omega arith) (nothing-completes shape raw t assign is) in
    let fit = fit-part shape raw t assign fits part p in
    let over = closed.over.over in
    omega (arith, low, fit, over)

pub below_root : FeasibleIsBelowRoot
below_root shape raw r t root top feasible =
    elim (cases_lt r t) [
      | inl above ↦ absurd (fits_open shape raw t feasible.assign feasible.is_assignment feasible.fits (root.above t above top))
      | inr within ↦ within
    ]

-- ---- the cheapest assignment is one
abbrev pub most : List ℕ
most = 3 ∷ 0 ∷ 0 ∷ 0 ∷ 0 ∷ 0 ∷ []

pub code_most : (block : ℕ) → slice_index most block ≤ 3
code_most zero = omega arith
code_most (suc zero) = omega arith
code_most (suc (suc zero)) = omega arith
code_most (suc (suc (suc zero))) = omega arith
code_most (suc (suc (suc (suc zero)))) = omega arith
code_most (suc (suc (suc (suc (suc zero))))) = omega arith
code_most (suc (suc (suc (suc (suc (suc block)))))) = omega arith

last_word : (n : ℕ) (lfe : Bool) → lfe ≡ true → word_of (replicate n most ++ (if lfe then (1 ∷ 0 ∷ 0 ∷ 0 ∷ 0 ∷ 0 ∷ []) ∷ [] else [])) n ≡ low_word most
last_word n lfe there =
    let rest : List (List ℕ) = if lfe then (1 ∷ 0 ∷ 0 ∷ 0 ∷ 0 ∷ 0 ∷ []) ∷ [] else [] in
    let none : n - n ≡ 0 = omega arith in
    let right = get_or-append_right (replicate n most) rest n n [] (length-replicate n most) (omega arith) in
    let one : slice_index_or rest (n - n) [] ≡ low_word most =
    ap (λ k. slice_index_or rest k []) none ∙ ap (λ (b : Bool). slice_index_or (if b then (1 ∷ 0 ∷ 0 ∷ 0 ∷ 0 ∷ 0 ∷ []) ∷ [] else []) 0 []) there in
    right ∙ one

pub cheapest_is : (shape : Shape) → IsAssignmentOf shape (cheapest_assign shape)
cheapest_is shape =
    let n = coded_of shape.acmod false shape.couple in
    let rest : List (List ℕ) = if shape.lfe then (1 ∷ 0 ∷ 0 ∷ 0 ∷ 0 ∷ 0 ∷ []) ∷ [] else [] in
    let long : length (replicate n most) ≡ n = length-replicate n most in
    uniform shape.acmod shape.lfe shape.bw shape.couple (cheapest_assign shape) (record {
      word = most;
      is_word = record { long = refl; sends = omega arith; small = λ block l. code_most block };
      others = λ c l. get_or-append (replicate n most) rest [] c (omega (arith, long)) ∙ get_or-replicate n c most [] l;
      low = λ there. last_word n shape.lfe there;
    })

-- ---- closed, by the bounds that the code compares
pub closed_by : (shape : Shape) (raw : List (List (List ℕ))) (t : ℕ) (pot : ℕ → ℕ → ℕ → ℕ) (bounds : List ℕ) → ArePots (at_offset shape raw t) pot → ((part : ℕ) → part < 3 → slice_index bounds part ≡ lower_of shape pot nothing part) → IsOver shape (slice_index bounds) → IsClosed shape raw t
closed_by shape raw t pot bounds are same over = record {
  pot = pot;
  are = are;
  over = record { part = over.part; is_part = over.is_part; over = let o = over.over in let e = same over.part over.is_part in omega (arith, o, e) };
}

pub over_by : (shape : Shape) (raw : List (List (List ℕ))) (t : ℕ) (pot : ℕ → ℕ → ℕ → ℕ) (bounds : List ℕ) → ArePots (at_offset shape raw t) pot → ((part : ℕ) → part < 3 → slice_index bounds part ≡ lower_of shape pot nothing part) → IsClosed shape raw t → IsOver shape (slice_index bounds)
over_by shape raw t pot bounds are same closed =
    let over = over_rises shape raw t t closed.pot pot (omega arith) closed.are are closed.over in
    record { part = over.part; is_part = over.is_part; over = let o = over.over in let e = same over.part over.is_part in omega (arith, o, e) }
