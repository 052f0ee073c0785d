-- Powers of two, and floors by them.
use Rattle.std.proofs.Common.{◌≡◌, ℕ, zero, suc, ◌+◌, ◌-◌, ◌*◌, ◌^◌, ◌<◌, ◌≤◌, ℤ, pos, negsuc, unsigned_abs, arith, sym, ◌∙◌, ap}
use Rattle.std.proofs.Math.Nat.{div-le_of_le-mul, div-lt_iff_lt-mul, pow-suc, mul_comm}
use Rattle.std.proofs.lemmas.Nat.{pow-add}
use Rattle.ac_base.specs.Floor.{floor_div}

-- two powers together
pub powers_join : (i j k : ℕ) → i + j ≡ k → 2 ^ i * 2 ^ j ≡ 2 ^ k
powers_join i j k is = sym (pow-add 2 i j) ∙ ap (λ n. 2 ^ n) is

-- a floor is no further from 0 than its number over the divisor
pub floor_within : (z : ℤ) (d m : ℕ) → unsigned_abs z ≤ d * m → unsigned_abs (floor_div z d) ≤ m
floor_within (pos n) d m within = div-le_of_le-mul d within
floor_within (negsuc n) zero m within = absurd (omega arith)
floor_within (negsuc n) (suc d) m within =
    let room : n < m * suc d = omega arith in
    let below = (div-lt_iff_lt-mul {k = suc d} {x = n} {y = m} (omega arith)).1 room in
    omega arith

-- a power is twice the one before
pub twice : (w : ℕ) → 1 ≤ w → 2 ^ w ≡ 2 * 2 ^ (w - 1)
twice zero least = absurd (omega arith)
twice (suc w) least = let less : suc w - 1 ≡ w = omega arith in pow-suc 2 w ∙ mul_comm (2 ^ w) 2 ∙ ap (λ n. 2 * 2 ^ n) (sym less)
