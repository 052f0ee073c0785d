-- Values stay within the scale of coefficients.
use Rattle.std.proofs.Common.{ℕ, ◌+◌, ◌-◌, ◌*◌, ◌^◌, ◌<◌, ◌≤◌, pos, ◌-ℤ◌, ◌*ℤ◌, unsigned_abs, arith, inl, inr}
use Rattle.std.proofs.lemmas.Bool.{cases_lt}
use Rattle.std.proofs.lemmas.Bool.Decides.{nat_tests}
use Rattle.std.proofs.lemmas.Int.{ints, unsigned_abs-mul}
use Rattle.std.proofs.lemmas.Nat.{mul-le}
use Rattle.ac_base.proofs.Powers.{pow_le}
use Rattle.ac_mant.specs.Quantiser.{levels, width, IsCode, signed, middle, multiple, value_of}
use Rattle.ac_mant.proofs.Powers.{powers_join, floor_within}
use Rattle.ac_mant.proofs.Pointers.{width_least, width_most}
use Rattle.ac_mant.proofs.Rounding.{signed_within}

off_within : (code levels : ℕ) → code < levels → unsigned_abs (pos (2 * code + 1) -ℤ pos levels) ≤ levels
off_within code levels below = omega (arith, ints)

pub middle_within : (levels code e : ℕ) → code < levels → unsigned_abs (middle levels code e) ≤ 2 ^ 24
unfolding middle
middle_within levels code e below =
    let off = off_within code levels below in
    let one = pow_le 0 e (omega arith) in
    let wide = mul-le levels 1 levels (2 ^ e) (omega arith) one in
    let far = mul-le (unsigned_abs (pos (2 * code + 1) -ℤ pos levels)) (2 ^ 24) (levels * 2 ^ e) (2 ^ 24) (omega arith) (omega arith) in
    floor_within ((pos (2 * code + 1) -ℤ pos levels) *ℤ pos (2 ^ 24)) (levels * 2 ^ e) (2 ^ 24) (rw unsigned_abs-mul far)

pub multiple_within : (w code e : ℕ) → 5 ≤ w → w ≤ 16 → code < 2 ^ w → unsigned_abs (multiple w code e) ≤ 2 ^ 24
unfolding multiple
multiple_within w code e least most below =
    let near = signed_within w code (omega arith) most below in
    let whole = powers_join (w - 1) (25 - w) 24 (omega arith) in
    let one = pow_le 0 e (omega arith) in
    let wide = mul-le 1 (2 ^ 24) (2 ^ e) (2 ^ 24) one (omega arith) in
    let far = mul-le (unsigned_abs (signed w code)) (2 ^ (25 - w)) (2 ^ (w - 1)) (2 ^ (25 - w)) near (omega arith) in
    floor_within (signed w code *ℤ pos (2 ^ (25 - w))) (2 ^ e) (2 ^ 24) (rw unsigned_abs-mul (omega arith))

pub value_within : (code bap e : ℕ) → bap ≤ 15 → IsCode bap code → unsigned_abs (value_of code bap e) ≤ 2 ^ 24
value_within code bap e most is =
    elim (cases_lt 5 bap) [
      | inl wide ↦
          let there : code < 2 ^ width bap = grind (arith, nat_tests) in
          let small = multiple_within (width bap) code e (width_least bap wide most) (width_most bap most) there in
          grind (arith, nat_tests)
      | inr few ↦
          let there : code < levels bap = grind (arith, nat_tests) in
          let small = middle_within (levels bap) code e there in
          grind (arith, nat_tests)
    ]
