-- Bounds of the roundings.
use Rattle.std.proofs.Common.{◌≡◌, ℕ, zero, suc, ◌-◌, ◌*◌, ◌/◌, ◌^◌, ◌<◌, ◌≤◌, ℤ, pos, negsuc, ◌+ℤ◌, ◌*ℤ◌, ◌≤ℤ◌, ◌<ℤ◌, unsigned_abs, arith, refl}
use Rattle.std.proofs.lemmas.Int.{ints, int_min_is}
use Rattle.std.proofs.Math.Nat.{div-lt_iff_lt-mul, mul-pos}
use Rattle.std.proofs.lemmas.Bool.Decides.{nat_tests}
use Rattle.std.specs.Int.{int_min}
use Rattle.ac_base.specs.Floor.{floor_div}
use Rattle.ac_base.proofs.Powers.{pow_le}
use Rattle.ac_mant.specs.Quantiser.{nearest, complement, signed}
use Rattle.ac_mant.proofs.Powers.{powers_join, twice}

-- a number of 24 bits and a sign, raised by 2 ^ 24
raised : (z : ℤ) → unsigned_abs z < 2 ^ 24 → (n : ℕ) × ((n < 2 ^ 25) × (z +ℤ pos (2 ^ 24) ≡ pos n))
raised z small = (unsigned_abs (z +ℤ pos (2 ^ 24)), (omega (arith, ints), omega (arith, ints)))

-- its level, of so many, is one of them
around : (n levels : ℕ) → n < 2 ^ 25 → 1 ≤ levels → n * levels / 2 ^ 25 < levels
around n levels small least =
    let room : n * levels < levels * 2 ^ 25 = grind (arith, ints) in
    (div-lt_iff_lt-mul {k = 2 ^ 25} {x = n * levels} {y = levels} (omega arith)).1 room

pub level_around_is : (z : ℤ) (levels : ℕ) → unsigned_abs z < 2 ^ 24 → 1 ≤ levels → (k : ℕ) × ((k < levels) × (floor_div ((z +ℤ pos (2 ^ 24)) *ℤ pos levels) (2 ^ 25) ≡ pos k))
level_around_is z levels small least =
    let up = raised z small in
    (up.0 * levels / 2 ^ 25, (around up.0 levels up.1.0 least, rw up.1.1 refl))

-- ---- the nearest step

-- a floor is not below the least
floor_least : (z : ℤ) (d m : ℕ) → 1 ≤ m → negsuc (d * m - 1) ≤ℤ z → negsuc (m - 1) ≤ℤ floor_div z d
floor_least (pos n) d m least from = omega (arith, ints)
floor_least (negsuc n) zero m least from = omega (arith, ints)
floor_least (negsuc n) (suc d) m least from =
    let positive : 0 < suc d * m = mul-pos (omega arith) least in
    let room : n < m * suc d = grind (arith, ints) in
    let below = (div-lt_iff_lt-mul {k = suc d} {x = n} {y = m} (omega arith)).1 room in
    omega (arith, ints)

-- a number over a step, and at most the greatest
capped : (z : ℤ) (p d m : ℕ) → 1 ≤ m → unsigned_abs z < d * m → (negsuc (m - 1) ≤ℤ int_min (floor_div (z +ℤ pos p) d) (pos (m - 1))) × (int_min (floor_div (z +ℤ pos p) d) (pos (m - 1)) ≤ℤ pos (m - 1))
capped z p d m least small =
    let low = floor_least (z +ℤ pos p) d m least (omega (arith, ints)) in
    let least_is = int_min_is (floor_div (z +ℤ pos p) d) (pos (m - 1)) in
    (omega (arith, ints, low, least_is), omega (arith, ints, least_is))

pub nearest_capped : (w : ℕ) (z : ℤ) → 5 ≤ w → w ≤ 16 → unsigned_abs z < 2 ^ 24 → (negsuc (2 ^ (w - 1) - 1) ≤ℤ nearest w z) × (nearest w z ≤ℤ pos (2 ^ (w - 1) - 1))
unfolding nearest
nearest_capped w z least most small =
    let whole = powers_join (25 - w) (w - 1) 24 (omega arith) in
    let one = pow_le 0 (w - 1) (omega arith) in
    capped z (2 ^ (24 - w)) (2 ^ (25 - w)) (2 ^ (w - 1)) (omega arith) (omega arith)

pub nearest_low : (w : ℕ) (z : ℤ) → 5 ≤ w → w ≤ 16 → unsigned_abs z < 2 ^ 24 → pos 0 ≤ℤ (nearest w z +ℤ pos (2 ^ (w - 1)))
nearest_low w z least most small = let low = (nearest_capped w z least most small).0 in let one = pow_le 0 (w - 1) (omega arith) in omega (arith, ints, low)

pub nearest_high : (w : ℕ) (z : ℤ) → 5 ≤ w → w ≤ 16 → unsigned_abs z < 2 ^ 24 → nearest w z ≤ℤ pos (2 ^ (w - 1) - 1)
nearest_high w z least most small = (nearest_capped w z least most small).1

-- ---- two's complement

pub complement_low : (w : ℕ) (q : ℤ) → 1 ≤ w → pos 0 ≤ℤ (q +ℤ pos (2 ^ (w - 1))) → q ≤ℤ pos (2 ^ (w - 1) - 1) → complement w q < 2 ^ w
unfolding complement
complement_low w (pos n) least low high = let two = twice w least in let one = pow_le 0 (w - 1) (omega arith) in omega (arith, ints)
complement_low w (negsuc n) least low high = let two = twice w least in let one = pow_le 0 (w - 1) (omega arith) in omega (arith, ints)

pub complement_raised : (w : ℕ) (q : ℤ) → 1 ≤ w → pos 0 ≤ℤ (q +ℤ pos (2 ^ (w - 1))) → q <ℤ pos 0 → q +ℤ pos (2 ^ w) ≡ pos (complement w q)
unfolding complement
complement_raised w (pos n) least low negative = absurd (omega (arith, ints))
complement_raised w (negsuc n) least low negative = let two = twice w least in let one = pow_le 0 (w - 1) (omega arith) in omega (arith, ints)

pub complement_kept : (w : ℕ) (q : ℤ) → pos 0 ≤ℤ q → q ≡ pos (complement w q)
unfolding complement
complement_kept w (pos n) from = refl
complement_kept w (negsuc n) from = absurd (omega (arith, ints))

pub complement_fits : (w : ℕ) (q : ℤ) → 1 ≤ w → w ≤ 16 → pos 0 ≤ℤ (q +ℤ pos (2 ^ (w - 1))) → q ≤ℤ pos (2 ^ (w - 1) - 1) → complement w q < 2 ^ 16
complement_fits w q least most low high = let below = complement_low w q least low high in let two = pow_le w 16 most in omega arith

pub signed_within : (w code : ℕ) → 1 ≤ w → w ≤ 16 → code < 2 ^ w → unsigned_abs (signed w code) ≤ 2 ^ (w - 1)
unfolding signed
signed_within w code least most below = let two = twice w least in grind (arith, ints, nat_tests)
