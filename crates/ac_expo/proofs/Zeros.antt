-- A number below 2 ^ 24 has at least eight leading zeros of 32.
use Rattle.std.proofs.Common.{◌≡◌, ℕ, zero, suc, true, false, subst, ◌+◌, ◌-◌, ◌*◌, ◌≤◌, ◌<◌, ◌^◌, arith, inl, inr, sym, ap, ◌∙◌}
use Rattle.std.specs.Int.Count.{count_leading_zeros}
use Rattle.std.proofs.lemmas.Nat.{leading_length, pow_pos, pow-add, mul-le}
use Rattle.std.specs.Prelude.{nat_lt}
use Rattle.std.proofs.lemmas.Bool.{cases_lt, cases_eq, lt-ltb, le-ltb}
use Rattle.std.proofs.Common.{unsigned_abs}
use Rattle.ac_expo.specs.Raw.{raw_below, raw_of, IsRaw, RawIsGreatest}
use Rattle.std.proofs.Math.Nat.{pow-le-pow_right}

pub few_digits : (a : ℕ) → a < 2 ^ 24 → 8 ≤ count_leading_zeros 32 a
few_digits a small =
    let l = leading_length 32 a (omega arith) in
    elim (cases_lt l.0 25) [
      | inl short ↦ omega arith
      | inr long ↦ let big : 2 ^ 25 ≤ 2 ^ l.0 = pow-le-pow_right (omega arith) long in absurd (omega arith)
    ]

greatest_above : (a m e k : ℕ) → m ≡ k + 1 → m + e ≡ 24 → 2 ^ m ≤ 2 * a + 1 → 2 ^ 24 ≤ a * 2 ^ (e + 1)
greatest_above a m e k one sum below =
    let double : 2 ^ m ≡ 2 ^ k * 2 ^ 1 = ap (λ n. 2 ^ n) one ∙ pow-add 2 k 1 in
    let half : 2 ^ k ≤ a = omega arith in
    let whole : 2 ^ k * 2 ^ (e + 1) ≡ 2 ^ 24 = let n : k + (e + 1) ≡ 24 = omega arith in sym (pow-add 2 k (e + 1)) ∙ ap (λ n. 2 ^ n) n in
    let p = mul-le (2 ^ k) (2 ^ (e + 1)) a (2 ^ (e + 1)) half (omega arith) in
    omega arith

-- the exponent by the bit length m is the greatest
pub greatest_exponent : (a m e : ℕ) → m + e ≡ 24 → a < 2 ^ m → 2 ^ m ≤ 2 * a + 1 → (a * 2 ^ e < 2 ^ 24) × (0 < m → 2 ^ 24 ≤ a * 2 ^ (e + 1))
greatest_exponent a m e sum above below =
    let room = pow_pos e in
    let whole : 2 ^ m * 2 ^ e ≡ 2 ^ 24 = sym (pow-add 2 m e) ∙ ap (λ n. 2 ^ n) sum in
    let least = mul-le (a + 1) (2 ^ e) (2 ^ m) (2 ^ e) (omega arith) (omega arith) in
    (omega arith, λ some. greatest_above a m e (m - 1) (omega arith) sum below)

pub raw_is_greatest : (a : ℕ) → a < 2 ^ 24 → (a * 2 ^ (count_leading_zeros 32 a - 8) < 2 ^ 24) × (count_leading_zeros 32 a - 8 < 24 → 2 ^ 24 ≤ a * 2 ^ ((count_leading_zeros 32 a - 8) + 1))
raw_is_greatest a small =
    let l = leading_length 32 a (omega arith) in
    let enough = few_digits a small in
    let g = greatest_exponent a l.0 (count_leading_zeros 32 a - 8) (omega arith) l.2 l.3 in
    (g.0, λ less. g.1 (omega arith))

-- a lower exponent fits too
fits_below : (a d e : ℕ) → d ≤ e → a * 2 ^ d ≤ a * 2 ^ e
fits_below a d e l = mul-le a (2 ^ d) a (2 ^ e) (omega arith) (pow-le-pow_right (omega arith) l)

-- the search downwards finds the greatest
pub found : (n a e : ℕ) → e ≤ n → a * 2 ^ e < 2 ^ 24 → (e < n → 2 ^ 24 ≤ a * 2 ^ (e + 1)) → raw_below n a ≡ e
unfolding raw_below
found zero a e l fits above = omega arith
found (suc n) a e l fits above =
    elim (cases_eq e (suc n)) [
      | inl same ↦ let t : nat_lt (a * 2 ^ suc n) (2 ^ 24) ≡ true = lt-ltb _ _ (subst (λ x. a * 2 ^ x < 2 ^ 24) same fits) in rw t (sym same)
      | inr less ↦
          let up = fits_below a (e + 1) (suc n) (omega arith) in
          let big = above (omega arith) in
          let t : nat_lt (a * 2 ^ suc n) (2 ^ 24) ≡ false = le-ltb _ _ (omega arith) in
          rw t (found n a e (omega arith) fits (λ h. above (omega arith)))
    ]

pub most : (a e : ℕ) → (e < 24 → 2 ^ 24 ≤ a * 2 ^ (e + 1)) → (d : ℕ) → d ≤ 24 → a * 2 ^ d < 2 ^ 24 → d ≤ e
most a e above d l fits =
    elim (cases_lt e d) [
      | inl more ↦ let up = fits_below a (e + 1) d (omega arith) in let big = above (omega arith) in absurd (omega arith)
      | inr within ↦ within
    ]

pub at_most_all : (a : ℕ) → a < 2 ^ 24 → count_leading_zeros 32 a - 8 ≤ 24
at_most_all a small = let l = leading_length 32 a (omega arith) in omega arith

pub raw_greatest : RawIsGreatest
raw_greatest c small =
    let a = unsigned_abs c in
    let e = count_leading_zeros 32 a - 8 in
    let r = raw_is_greatest a small in
    let same : raw_of c ≡ e = found 24 a e (at_most_all a small) r.0 r.1 in
    let P : ℕ → Type 0 = IsRaw c in
    subst P (sym same) (record { bound = at_most_all a small; fits = r.0; greatest = λ d l fits. most a e r.1 d l fits })
