-- The search downwards gives the coordinate, and there is one.
use Rattle.std.proofs.Common.{◌≡◌, ℕ, zero, suc, ◌*◌, ◌^◌, ◌≤◌, Bool, true, false, cond, refl, ap, sym, ◌∙◌, subst, inl, inr, arith}
use Rattle.std.specs.Prelude.{nat_le}
use Rattle.std.proofs.lemmas.Bool.{cases_eq, cases_order, leb-true, leb-false}
use Rattle.ac_coordinates.specs.Factor.{factor_of}
use Rattle.ac_coupling.specs.Coordinate.{factor_at, IsWithin, coordinate_at, greatest_within, coordinate_of, SearchGivesCoordinate, CoordinateIsOne}
use Rattle.ac_coupling.proofs.Rising.{step, rises, climbs, placed}

-- g is the greatest number up to n of one that is within
record Found (own shared n g : ℕ) : Type 0 where
  bound : g ≤ n
  within : IsWithin own shared (step g)
  greatest : (m : ℕ) → m ≤ n → IsWithin own shared (step m) → m ≤ g

found_next : (own shared n g : ℕ) (test : Bool) → nat_le (step (suc n) * step (suc n) * 64 * shared) (own * 2 ^ 38) ≡ test → Found own shared n g → Found own shared (suc n) (cond test (suc n) g)
found_next own shared n g true passed before =
    record {
      bound = omega arith;
      within = leb-true (step (suc n) * step (suc n) * 64 * shared) (own * 2 ^ 38) passed;
      greatest = λ m below within. below;
    }
found_next own shared n g false failed before =
    let more = leb-false (step (suc n) * step (suc n) * 64 * shared) (own * 2 ^ 38) failed in
    record {
      bound = omega (arith, before.bound);
      within = before.within;
      greatest = λ m below within.
          elim (cases_eq m (suc n)) [
            | inl same ↦ let w : IsWithin own shared (step (suc n)) = subst (λ k. IsWithin own shared (step k)) same within in absurd (omega (arith, w, more))
            | inr apart ↦ before.greatest m (omega arith) within
          ];
    }

found : (n own shared : ℕ) → Found own shared n (greatest_within n own shared)
unfolding greatest_within
found zero own shared = record { bound = omega arith; within = omega arith; greatest = λ m below within. below }
found (suc n) own shared =
    found_next own shared n (greatest_within n own shared) (nat_le (step (suc n) * step (suc n) * 64 * shared) (own * 2 ^ 38)) refl (found n own shared)

pub search_gives : SearchGivesCoordinate
unfolding coordinate_of
search_gives own shared =
    let g = greatest_within 255 own shared in
    let f = found 255 own shared in
    record {
      exp_bound = omega arith;
      mant_bound = omega arith;
      within = f.within;
      greatest = λ exp mant e m within.
          let p = placed exp mant e m in
          let same : step p.place ≡ factor_of exp mant = ap factor_at p.is in
          let below = f.greatest p.place p.bound (subst (λ v. IsWithin own shared v) (sym same) within) in
          let up = climbs p.place g below f.bound in
          omega (arith, same, up);
    }

pub one_coordinate : CoordinateIsOne
one_coordinate own shared x y first second =
    let p = placed x.exp x.mant first.exp_bound first.mant_bound in
    let q = placed y.exp y.mant second.exp_bound second.mant_bound in
    let there = first.greatest y.exp y.mant second.exp_bound second.mant_bound second.within in
    let back = second.greatest x.exp x.mant first.exp_bound first.mant_bound first.within in
    let left : step p.place ≡ factor_at x = ap factor_at p.is in
    let right : step q.place ≡ factor_at y = ap factor_at q.is in
    let same : p.place ≡ q.place =
    elim (cases_order p.place q.place) [
      | inl equal ↦ equal
      | inr (inl less) ↦ let r = rises p.place q.place less q.bound in absurd (omega (arith, r, left, right, there, back))
      | inr (inr more) ↦ let r = rises q.place p.place more p.bound in absurd (omega (arith, r, left, right, there, back))
    ] in
    sym p.is ∙ ap coordinate_at same ∙ q.is
