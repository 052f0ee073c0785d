-- The middles of levels, listed, and over powers of two.
use Rattle.std.proofs.Common.{◌≡◌, ℕ, ◌+◌, ◌*◌, ◌/◌, ◌%◌, ◌^◌, ◌<◌, ◌≤◌, Bool, true, ℤ, pos, negsuc, ◌-ℤ◌, ◌*ℤ◌, unsigned_abs, SFits, w32, rules, slice_index_or, refl, arith, ap, sym, ◌∙◌, subst}
use Rattle.std.specs.Prelude.{if◌then◌else◌, nat_lt}
use Rattle.std.specs.Ordering.{int_eq}
use Rattle.std.proofs.lemmas.Bool.Decides.{nat_tests, Decides-int_eq}
use Rattle.std.proofs.Math.Nat.{div-div-eq-div-mul}
use Rattle.ac_base.specs.Floor.{floor_div}
use Rattle.ac_base.proofs.Tests.{all_below-at}
use Rattle.ac_mant.specs.Quantiser.{levels, middle}
use Rattle.std.proofs.lemmas.Int.{ints}
use Rattle.ac_mant.proofs.Values.{middle_within}
use Rattle.ac_mant.specs.declared.quantiser.TheConstants.{MIDDLES}

-- a floor in two steps
floor_twice : (z : ℤ) (d f : ℕ) → floor_div (floor_div z d) f ≡ floor_div z (d * f)
floor_twice (pos n) d f = ap pos (div-div-eq-div-mul n d f)
floor_twice (negsuc n) d f = ap negsuc (div-div-eq-div-mul n d f)

-- the table's place n
abbrev listed_at : ℕ → Bool
listed_at n =
    if nat_lt (n % 16) (levels (n / 16)) then int_eq (slice_index_or MIDDLES n (pos 0)) (middle (levels (n / 16)) (n % 16) 0) else true

all_listed : (n : ℕ) → n < 96 → listed_at n ≡ true
unfolding levels middle
all_listed n below = all_below-at 96 listed_at refl n below

pub middle_listed : (bap code : ℕ) → bap ≤ 5 → code < levels bap → code ≤ 14
    → slice_index_or MIDDLES (16 * bap + code) (pos 0) ≡ middle (levels bap) code 0
middle_listed bap code most below small =
    let place : (16 * bap + code) / 16 ≡ bap = omega arith in
    let rest : (16 * bap + code) % 16 ≡ code = omega arith in
    let test = all_listed (16 * bap + code) (omega arith) in
    let same : (if nat_lt code (levels bap) then int_eq (slice_index_or MIDDLES (16 * bap + code) (pos 0)) (middle (levels bap) code 0) else true) ≡ true
    = subst (λ (q : ℕ). (if nat_lt code (levels q) then int_eq (slice_index_or MIDDLES (16 * bap + code) (pos 0)) (middle (levels q) code 0) else true) ≡ true) place
    (subst (λ (r : ℕ). (if nat_lt r (levels ((16 * bap + code) / 16)) then int_eq (slice_index_or MIDDLES (16 * bap + code) (pos 0)) (middle (levels ((16 * bap + code) / 16)) r 0) else true) ≡ true) rest test) in
    grind (arith, nat_tests, Decides-int_eq)

pub middle_lowered : (l code e : ℕ) → floor_div (middle l code 0) (2 ^ e) ≡ middle l code e
unfolding middle
middle_lowered l code e =
    floor_twice ((pos (2 * code + 1) -ℤ pos l) *ℤ pos (2 ^ 24)) (l * 2 ^ 0) (2 ^ e) ∙ ap (λ (n : ℕ). floor_div ((pos (2 * code + 1) -ℤ pos l) *ℤ pos (2 ^ 24)) n) (ap (λ (q : ℕ). q * 2 ^ e) (omega arith))

narrow : (z : ℤ) → unsigned_abs z ≤ 2 ^ 24 → SFits w32 z
narrow z small = search (rules, ints)

pub middle_fits : (bap code : ℕ) → bap ≤ 5 → code < levels bap → code ≤ 14 → SFits w32 (slice_index_or MIDDLES (16 * bap + code) (pos 0))
middle_fits bap code most below small =
    subst (λ (z : ℤ). SFits w32 z) (sym (middle_listed bap code most below small)) (narrow (middle (levels bap) code 0) (middle_within (levels bap) code 0 below))
