-- The greatest number that is within, and the greatest factor up to it.
use Rattle.std.proofs.Common.{◌≡◌, ℕ, ◌+◌, ◌-◌, ◌*◌, ◌/◌, ◌^◌, ◌<◌, ◌≤◌, ap, ◌∙◌, inl, inr, arith}
use Rattle.std.proofs.lemmas.Bool.{cases_lt, cases_order}
use Rattle.std.proofs.lemmas.Nat.{mul-le, le-div, div_below, div-add-mod', pow-add, pow_pos}
use Rattle.std.proofs.Math.Nat.{mul_right_comm, lt-div-mul-add}
use Rattle.ac_base.proofs.Powers.{pow_le}
use Rattle.ac_coordinates.specs.Factor.{factor_of}
use Rattle.ac_coupling.specs.Coordinate.{IsWithin}
use Rattle.ac_coupling.proofs.Rising.{factor_low, factor_high}

-- what is within, by the quotient of the energies
pub within_below : (own shared r v : ℕ) → 0 < shared → r * r ≤ own * 2 ^ 32 / shared → v ≤ r → IsWithin own shared v
within_below own shared r v some root below =
    let squares = mul-le v v r r below below in
    let quotient = own * 2 ^ 32 / shared in
    let whole = div-add-mod' (own * 2 ^ 32) shared in
    let times = mul-le (v * v) shared quotient shared (omega (arith, squares, root)) (omega arith) in
    let turned = mul_right_comm (v * v) 64 shared in
    omega (arith, times, whole, turned)

pub within_above : (own shared r v : ℕ) → 0 < shared → own * 2 ^ 32 / shared < (r + 1) * (r + 1) → IsWithin own shared v → v ≤ r
within_above own shared r v some root within =
    let turned = mul_right_comm (v * v) 64 shared in
    let quotient = le-div (v * v) (own * 2 ^ 32) shared some (omega (arith, turned, within)) in
    elim (cases_lt r v) [
      | inl more ↦ let squares = mul-le (r + 1) (r + 1) v v (omega arith) (omega arith) in absurd (omega (arith, squares, quotient, root))
      | inr below ↦ below
    ]

double : (j : ℕ) → 2 ^ (j + 1) ≡ 2 * 2 ^ j
double j = let whole = pow-add 2 j 1 in omega (arith, whole)

doubled_below : (j k : ℕ) → j < k → 2 * 2 ^ j ≤ 2 ^ k
doubled_below j k less =
    let up = pow_le (j + 1) k (omega arith) in
    omega (arith, up, double j)

-- a factor with a leading one
greatest_high : (s k m j mant : ℕ) → 16 ≤ m → m ≤ 31 → m * 2 ^ k ≤ s → s < (m + 1) * 2 ^ k → mant ≤ 15 → (mant + 16) * 2 ^ j ≤ s → (mant + 16) * 2 ^ j ≤ m * 2 ^ k
greatest_high s k m j mant least most below above small within =
    elim (cases_order j k) [
      | inl same ↦
          let power : 2 ^ j ≡ 2 ^ k = ap (λ n. 2 ^ n) same in
          elim (cases_lt m (mant + 16)) [
            | inl more ↦
                let up = mul-le (m + 1) (2 ^ k) (mant + 16) (2 ^ j) (omega arith) (omega (arith, power)) in
                absurd (omega (arith, up, above, within))
            | inr less ↦ mul-le (mant + 16) (2 ^ j) m (2 ^ k) less (omega (arith, power))
          ]
      | inr (inl less) ↦
          let low = mul-le (mant + 16) (2 ^ j) 32 (2 ^ j) (omega arith) (omega arith) in
          let up = doubled_below j k less in
          let high = mul-le 16 (2 ^ k) m (2 ^ k) least (omega arith) in
          omega (arith, low, up, high)
      | inr (inr more) ↦
          let low = mul-le 16 (2 ^ j) (mant + 16) (2 ^ j) (omega arith) (omega arith) in
          let up = doubled_below k j more in
          let high = mul-le (m + 1) (2 ^ k) 32 (2 ^ k) (omega arith) (omega arith) in
          absurd (omega (arith, low, up, high, above, within))
    ]

pub greatest_normal : (s k m : ℕ) → 16 ≤ m → m ≤ 31 → m * 2 ^ k ≤ s → s < (m + 1) * 2 ^ k → (exp mant : ℕ) → exp ≤ 15 → mant ≤ 15 → factor_of exp mant ≤ s → factor_of exp mant ≤ m * 2 ^ k
greatest_normal s k m least most below above exp mant e small within =
    elim (cases_lt exp 15) [
      | inl high ↦
          let is = factor_high exp mant (omega arith) in
          let g = greatest_high s k m (14 - exp) mant least most below above small (omega (arith, is, within)) in
          omega (arith, is, g)
      | inr low ↦
          let is = factor_low exp mant (omega arith) in
          let some = pow_pos k in
          let up = mul-le 16 1 m (2 ^ k) least (omega (arith, some)) in
          omega (arith, is, up)
    ]

-- the coordinate of a limit by its highest bit, k + 4
pub normal_is : (s k : ℕ) → k ≤ 14 → 2 ^ (k + 4) ≤ s → s < 2 * 2 ^ (k + 4) → (16 ≤ s / 2 ^ k) × (s / 2 ^ k ≤ 31) × (s / 2 ^ k * 2 ^ k ≤ s) × (s < (s / 2 ^ k + 1) * 2 ^ k)
normal_is s k few least most =
    let some = pow_pos k in
    let whole = pow-add 2 k 4 in
    let parts = div-add-mod' s (2 ^ k) in
    let low = le-div 16 s (2 ^ k) some (omega (arith, whole, least)) in
    let high = div_below s (2 ^ k) 32 some (omega (arith, whole, most)) in
    let next = lt-div-mul-add {a = s} {b = 2 ^ k} some in
    (low, omega (arith, high), omega (arith, parts), omega (arith, next))

-- the same by the whole of the highest bit
pub record IsNormal (s log : ℕ) : Type 0 where
  pub least_bit : 4 ≤ log
  pub most_bit : log - 4 ≤ 14
  pub least : 16 ≤ s / 2 ^ (log - 4)
  pub most : s / 2 ^ (log - 4) ≤ 31
  pub below : s / 2 ^ (log - 4) * 2 ^ (log - 4) ≤ s
  pub above : s < (s / 2 ^ (log - 4) + 1) * 2 ^ (log - 4)

pub is_normal : (s log : ℕ) → 16 ≤ s → s < 2 ^ 19 → 2 ^ log ≤ s → s < 2 * 2 ^ log → IsNormal s log
is_normal s log least most bit next =
    let enough : 4 ≤ log =
    elim (cases_lt log 4) [
      | inl few ↦ let up = doubled_below log 4 few in absurd (omega (arith, up))
      | inr many ↦ many
    ] in
    let few : log ≤ 18 =
    elim (cases_lt 18 log) [
      | inl many ↦ let up = pow_le 19 log many in absurd (omega (arith, up))
      | inr few ↦ few
    ] in
    let whole : 2 ^ log ≡ 2 ^ (log - 4 + 4) = ap (λ n. 2 ^ n) (omega arith) in
    let n = normal_is s (log - 4) (omega arith) (omega (arith, whole)) (omega (arith, whole)) in
    record { least_bit = enough; most_bit = omega arith; least = n.0; most = n.1; below = n.2; above = n.3 }

-- its factor
pub normal_factor : (k m : ℕ) → k ≤ 14 → 16 ≤ m → factor_of (14 - k) (m - 16) ≡ m * 2 ^ k
normal_factor k m few least =
    let is = factor_high (14 - k) (m - 16) (omega arith) in
    let mant : m - 16 + 16 ≡ m = omega arith in
    let power : 14 - (14 - k) ≡ k = omega arith in
    is ∙ ap (λ x. x * 2 ^ (14 - (14 - k))) mant ∙ ap (λ j. m * 2 ^ j) power
