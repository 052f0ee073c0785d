-- Ways on from one boundary by those from the later ones, and that there are least ones.
use Rattle.std.proofs.Common.{◌≡◌, ℕ, zero, suc, ◌+◌, ◌-◌, ◌*◌, ◌^◌, ◌<◌, ◌≤◌, min, true, false, List, [], ◌∷◌, length, slice_index, set, get_or-set_same, get_or-set_other, length-set, replicate, refl, sym, ap, ◌∙◌, inl, inr, subst, arith}
use Rattle.std.specs.Prelude.{if◌then◌else◌, ◌==◌}
use Rattle.std.proofs.lemmas.Bool.{cases_eq, eq-eqb, ne_eqb}
use Rattle.ac_base.specs.declared.runs.Run.{Run}
use Rattle.ac_expo.specs.Raw.{channels, channel_span}
use Rattle.ac_cost.specs.Records.{AtOffset}
use Rattle.ac_cost.specs.Sixths.{run_sixths, runs_sixths}
use Rattle.ac_bound.specs.Least.{IsLeast}
use Rattle.ac_bound.specs.Ways.{IsWay, IsLeastFrom}
use Rattle.ac_bound.specs.Laws.{LeastExists}
use Rattle.ac_bound.specs.Steps.{kinds_of, between, IsKindBelow, IsLeastBetween, IsLeastOn, after_of, AreFewFrom}
use Rattle.ac_bound.proofs.Leasts.{kinds_first, kinds_more, kinds-least, range_first, range_more}
use Rattle.ac_bound.proofs.Threes.{of_three}

-- nothing is left at the end
pub at_end : (v : AtOffset) (c part : ℕ) → IsLeastFrom v c part 6 0
at_end v c part = record { one = []; is_one = record { tiles = refl; each = tt }; met = refl; least = λ runs is. omega arith }

module _ (v : AtOffset) (c part at : ℕ) (after : ℕ → ℕ) (m : ℕ) (low : at < 6) (later : (k : ℕ) → at < k → k ≤ 6 → IsLeastFrom v c part k (after k)) (first : IsLeastOn v c part at 7 after m) where
  below : (runs : List Run) → IsWay v.shape c at runs → m ≤ runs_sixths v.shape v.raw v.t part c runs
  below [] is = absurd (omega (arith, is.tiles, low))
  below (run ∷ runs) is =
      let rest = later run.to (omega (arith, is.tiles.1)) is.each.0.is_run.blocks in
      let more = rest.least runs (record { tiles = is.tiles.2; each = is.each.1 }) in
      let here = first.least run (record { is_run = is.each.0; starts = is.tiles.0; ends = omega (arith, is.each.0.is_run.blocks) }) in
      omega (arith, more, here)

  -- a first run, and a least way on from its end
  pub way_step : IsLeastFrom v c part at m
  way_step =
      let run = first.one in
      let is = first.is_one in
      let order : at < run.to = omega (arith, is.starts, is.is_run.is_run.order) in
      let rest = later run.to order is.is_run.is_run.blocks in
      record {
        one = run ∷ rest.one;
        is_one = record { tiles = (is.starts, order, rest.is_one.tiles); each = (is.is_run, rest.is_one.each) };
        met = omega (arith, rest.met, first.met);
        least = below;
      }

-- ---- there are least ones
abbrev kinds_value : (ℕ → ℕ) → ℕ → ℕ
kinds_value f zero = f 1
kinds_value f (suc n) = min (kinds_value f n) (f (n + 2))

kinds_value-is : (f : ℕ → ℕ) (n : ℕ) → IsLeast (IsKindBelow (n + 2)) f (kinds_value f n)
kinds_value-is f zero = kinds_first f
kinds_value-is f (suc n) =
    let e : n + 2 + 1 ≡ suc n + 2 = omega arith in
    subst (λ k. IsLeast (IsKindBelow k) f (kinds_value f (suc n))) e (kinds_more f (n + 2) (kinds_value f n) (omega arith) (kinds_value-is f n))

abbrev between_value : AtOffset → ℕ → ℕ → ℕ → ℕ → ℕ
between_value v c part from to = kinds_value (λ kind. run_sixths v.shape v.raw v.t part c (between from to kind)) (kinds_of v.shape c - 1)

between_value-is : (v : AtOffset) (c part from to : ℕ) → IsLeastBetween v c part from to (kinds_of v.shape c + 1) (between_value v c part from to)
between_value-is v c part from to =
    let f : ℕ → ℕ = λ kind. run_sixths v.shape v.raw v.t part c (between from to kind) in
    let n = kinds_of v.shape c - 1 in
    let e : n + 2 ≡ kinds_of v.shape c + 1 = omega (arith, kinds-least (channel_span v.shape c).lead) in
    subst (λ k. IsLeast (IsKindBelow k) f (kinds_value f n)) e (kinds_value-is f n)

abbrev on_value : AtOffset → ℕ → ℕ → ℕ → (ℕ → ℕ) → ℕ → ℕ
on_value v c part at after zero = between_value v c part at (at + 1) + after (at + 1)
on_value v c part at after (suc n) =
    min (on_value v c part at after n) (between_value v c part at (at + 2 + n) + after (at + 2 + n))

on_value-is : (v : AtOffset) (c part at : ℕ) (after : ℕ → ℕ) (n : ℕ) → c < channels v.shape → at + 1 + n ≤ 6 → IsLeastOn v c part at (at + 2 + n) after (on_value v c part at after n)
on_value-is v c part at after zero l m =
    let e : at + 2 ≡ at + 2 + 0 = omega arith in
    subst (λ k. IsLeastOn v c part at k after (on_value v c part at after 0)) e
    (range_first v c part at l after (between_value v c part at (at + 1)) (omega arith) (between_value-is v c part at (at + 1)))
on_value-is v c part at after (suc n) l m =
    let e : at + 2 + n + 1 ≡ at + 2 + suc n = omega arith in
    subst (λ k. IsLeastOn v c part at k after (on_value v c part at after (suc n))) e
    (range_more v c part at l after (at + 2 + n) (on_value v c part at after n) (between_value v c part at (at + 2 + n)) (omega arith) (omega arith) (on_value-is v c part at after n l (omega arith)) (between_value-is v c part at (at + 2 + n)))

-- within so many boundaries of the end
abbrev pub least_value : AtOffset → ℕ → ℕ → ℕ → ℕ → ℕ
least_value v c part zero at = 0
least_value v c part (suc n) at = if at == 6 then 0 else on_value v c part at (least_value v c part n) (5 - at)

pub least_value-is : (v : AtOffset) (c part n at : ℕ) → c < channels v.shape → at ≤ 6 → 6 ≤ at + n → IsLeastFrom v c part at (least_value v c part n at)
least_value-is v c part zero at l m far =
    let e : 6 ≡ at = omega arith in subst (λ k. IsLeastFrom v c part k 0) e (at_end v c part)
least_value-is v c part (suc n) at l m far =
    elim (cases_eq at 6) [
      | inl e ↦
          let t : (at == 6) ≡ true = eq-eqb at 6 e in
          rw t (subst (λ k. IsLeastFrom v c part k 0) (sym e) (at_end v c part))
      | inr other ↦
          let f : (at == 6) ≡ false = ne_eqb at 6 other in
          let low : at < 6 = omega arith in
          let after = least_value v c part n in
          let e : at + 2 + (5 - at) ≡ 7 = omega arith in
          let first : IsLeastOn v c part at 7 after (on_value v c part at after (5 - at)) =
          subst (λ k. IsLeastOn v c part at k after (on_value v c part at after (5 - at))) e (on_value-is v c part at after (5 - at) l (omega arith)) in
          rw f (way_step v c part at after (on_value v c part at after (5 - at)) low (λ k lo hi. least_value-is v c part n k l hi (omega arith)) first)
    ]

pub exists : LeastExists
exists v c part at l m = (least_value v c part 6 at, least_value-is v c part 6 at l m (omega arith))

-- ---- the loop over boundaries
pub record IsKnownFrom (v : AtOffset) (c at : ℕ) (rows : List (List ℕ)) : Type 0 where
  pub long : length rows ≡ 7
  pub leasts : (k part : ℕ) → at ≤ k → k ≤ 6 → part < 3 → IsLeastFrom v c part k (after_of rows k part)
  pub few : AreFewFrom at rows

pub known-none : (v : AtOffset) (c : ℕ) → IsKnownFrom v c 6 (replicate 7 (replicate 3 0))
known-none v c = record {
  long = refl;
  leasts = λ k part l m p.
      let e : k ≡ 6 = omega arith in
      let z : after_of (replicate 7 (replicate 3 0)) 6 part ≡ 0 = of_three (λ q. after_of (replicate 7 (replicate 3 0)) 6 q ≡ 0) refl refl refl part p in
      subst (λ x. IsLeastFrom v c part x (after_of (replicate 7 (replicate 3 0)) x part)) (sym e) (subst (IsLeastFrom v c part 6) (sym z) (at_end v c part));
  few = λ k part l m p.
      let e : k ≡ 6 = omega arith in
      let z : after_of (replicate 7 (replicate 3 0)) 6 part ≡ 0 = of_three (λ q. after_of (replicate 7 (replicate 3 0)) 6 q ≡ 0) refl refl refl part p in
      subst (λ x. after_of (replicate 7 (replicate 3 0)) x part ≤ (6 - x) * 2 ^ 19) (sym e) (omega (arith, z));
}

here : (rows : List (List ℕ)) (at part : ℕ) (new : List ℕ) → at < length rows → after_of (set rows at new) at part ≡ slice_index new part
here rows at part new l = ap (λ row. slice_index row part) (get_or-set_same rows at new [] l)

there : (rows : List (List ℕ)) (at k part : ℕ) (new : List ℕ) → (k ≡ at → ⊥) → after_of (set rows at new) k part ≡ after_of rows k part
there rows at k part new other = ap (λ row. slice_index row part) (get_or-set_other rows at k new [] other)

pub known-more : (v : AtOffset) (c at : ℕ) (rows : List (List ℕ)) (new : List ℕ) → at < 6 → IsKnownFrom v c (at + 1) rows → ((part : ℕ) → part < 3 → IsLeastOn v c part at 7 (λ k. after_of rows k part) (slice_index new part)) → ((part : ℕ) → part < 3 → slice_index new part ≤ (6 - at) * 2 ^ 19) → IsKnownFrom v c at (set rows at new)
known-more v c at rows new low so first few =
    let inside : at < length rows = omega (arith, so.long) in
    record {
      long = length-set rows at new ∙ so.long;
      leasts = λ k part l m p. elim (cases_eq k at) [
        | inl e ↦
            let step = way_step v c part at (λ j. after_of rows j part) (slice_index new part) low (λ j lo hi. so.leasts j part (omega arith) hi p) (first part p) in
            subst (λ x. IsLeastFrom v c part x (after_of (set rows at new) x part)) (sym e) (subst (IsLeastFrom v c part at) (sym (here rows at part new inside)) step)
        | inr other ↦ subst (IsLeastFrom v c part k) (sym (there rows at k part new other)) (so.leasts k part (omega arith) m p)
      ];
      few = λ k part l m p. elim (cases_eq k at) [
        | inl e ↦
            subst (λ x. after_of (set rows at new) x part ≤ (6 - x) * 2 ^ 19) (sym e) (omega (arith, here rows at part new inside, few part p))
        | inr other ↦ omega (arith, there rows at k part new other, so.few k part (omega arith) m p)
      ];
    }
