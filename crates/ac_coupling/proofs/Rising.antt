-- The factors of the 256 coordinates rise, and each coordinate is one of them.
use Rattle.std.proofs.Common.{◌≡◌, ℕ, zero, suc, ◌+◌, ◌-◌, ◌*◌, ◌/◌, ◌%◌, ◌^◌, ◌<◌, ◌≤◌, Bool, refl, ap, sym, ◌∙◌, subst, inl, inr, arith}
use Rattle.std.specs.Prelude.{nat_lt}
use Rattle.std.proofs.lemmas.Bool.{cases_eq, ltb-true, eq-eqb, ne_eqb, cond-true, cond-false}
use Rattle.std.proofs.lemmas.Nat.{div-mul-add, mod-mul-add}
use Rattle.ac_base.proofs.Tests.{all_below-at}
use Rattle.ac_coordinates.specs.Factor.{factor_of}
use Rattle.ac_coordinates.specs.declared.Coordinate.{Coordinate}
use Rattle.ac_coupling.specs.Coordinate.{factor_at, coordinate_at}

-- the factor of coordinate n
abbrev pub step : ℕ → ℕ
step n = factor_at (coordinate_at n)

rises_at : ℕ → Bool
rises_at n = nat_lt (step n) (step (suc n))

rises_next : (n : ℕ) → n < 255 → step n < step (suc n)
unfolding rises_at
rises_next n below = ltb-true (step n) (step (suc n)) (all_below-at 255 rises_at refl n below)

pub rises : (m n : ℕ) → m < n → n ≤ 255 → step m < step n
rises m zero less most = absurd (omega arith)
rises m (suc n) less most =
    let next = rises_next n (omega arith) in
    elim (cases_eq m n) [
      | inl same ↦ subst (λ k. step k < step (suc n)) (sym same) next
      | inr apart ↦ let before = rises m n (omega arith) (omega arith) in omega (arith, before, next)
    ]

pub climbs : (m n : ℕ) → m ≤ n → n ≤ 255 → step m ≤ step n
climbs m n less most =
    elim (cases_eq m n) [
      | inl same ↦ let e : step m ≡ step n = ap step same in omega (arith, e)
      | inr apart ↦ let before = rises m n (omega arith) most in omega (arith, before)
    ]

same_fields : (a b m n : ℕ) → a ≡ b → m ≡ n → ◌≡◌ {A = Coordinate} (record { exp = a; mant = m }) (record { exp = b; mant = n })
same_fields a b m n exp mant =
    ap (λ (x : ℕ). record { exp = x; mant = m }) exp ∙ ap (λ (y : ℕ). record { exp = b; mant = y }) mant

-- the number of a coordinate
pub record Placed (exp mant : ℕ) : Type 0 where
  pub place : ℕ
  pub bound : place ≤ 255
  pub is : coordinate_at place ≡ record { exp = exp; mant = mant }

pub placed : (exp mant : ℕ) → exp ≤ 15 → mant ≤ 15 → Placed exp mant
placed exp mant e m =
    let n = (15 - exp) * 16 + mant in
    let high : n / 16 ≡ 15 - exp = div-mul-add (15 - exp) 16 mant (omega arith) in
    let low : n % 16 ≡ mant = mod-mul-add (15 - exp) 16 mant (omega arith) in
    let turned : 15 - n / 16 ≡ exp = omega (arith, high) in
    record {
      place = n;
      bound = omega arith;
      is = same_fields (15 - n / 16) exp (n % 16) mant turned low;
    }

-- 31 * 2 ^ 14 is the greatest factor
pub at_most : (exp mant : ℕ) → exp ≤ 15 → mant ≤ 15 → factor_of exp mant ≤ 31 * 2 ^ 14
at_most exp mant e m =
    let p = placed exp mant e m in
    let same : step p.place ≡ factor_of exp mant = ap factor_at p.is in
    let top : step p.place ≤ step 255 = climbs p.place 255 p.bound (omega arith) in
    let last : step 255 ≡ 31 * 2 ^ 14 = refl in
    omega (arith, same, top, last)

pub factor_low : (exp mant : ℕ) → exp ≡ 15 → factor_of exp mant ≡ mant
factor_low exp mant e = cond-true _ mant ((mant + 16) * 2 ^ (14 - exp)) (eq-eqb exp 15 e)

pub factor_high : (exp mant : ℕ) → exp ≤ 14 → factor_of exp mant ≡ (mant + 16) * 2 ^ (14 - exp)
factor_high exp mant e = cond-false _ mant ((mant + 16) * 2 ^ (14 - exp)) (ne_eqb exp 15 (λ same. omega arith))
