-- Quotients rounded downwards are small.
use Rattle.std.proofs.Common.{◌≡◌, ◌∙◌, ℕ, suc, ◌+◌, ◌*◌, ◌^◌, ◌≤◌, ℤ, pos, negsuc, ◌+ℤ◌, ◌*ℤ◌, refl, ap, arith}
use Rattle.std.specs.Int.Signed.{shr_z}
use Rattle.std.proofs.lemmas.Int.{ints}
use Rattle.std.specs.Prelude.{unsigned_abs}
use Rattle.std.proofs.lemmas.Nat.{div_below}
use Rattle.std.proofs.Math.Nat.{pow-succ'}
use Rattle.ac_base.specs.Floor.{floor_div}

pub floor_within : (z : ℤ) (d m : ℕ) → 1 ≤ d → unsigned_abs z ≤ d * m → unsigned_abs (floor_div z d) ≤ m
floor_within (pos n) d m some h = omega (arith, div_below n d (m + 1) some (omega arith))
floor_within (negsuc n) d m some h = omega (arith, div_below n d m some (omega arith))

pub shifted_is : (z : ℤ) (d : ℕ) → shr_z z d ≡ floor_div z d
shifted_is (pos n) d = refl
shifted_is (negsuc n) d = refl

pub scaled_within : (z : ℤ) → unsigned_abs z ≤ 2 ^ 15 → unsigned_abs (z *ℤ pos 256) ≤ 2 ^ 23
scaled_within z h = omega (arith, ints)

pub sum_within : (a b : ℤ) → unsigned_abs a ≤ 2 ^ 15 → unsigned_abs b ≤ 2 ^ 15 → unsigned_abs (a +ℤ b) ≤ 2 * 2 ^ 15
sum_within a b h k = omega (arith, ints)

pub twice : (k : ℕ) → 2 ^ (k + 1) ≡ 2 * 2 ^ k
twice k = let place : k + 1 ≡ suc k = omega arith in ap (λ (n : ℕ). 2 ^ n) place ∙ pow-succ' 2 k
