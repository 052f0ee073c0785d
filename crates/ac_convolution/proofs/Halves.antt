-- The transform by its even and its odd rows.
use Rattle.std.proofs.Common.{◌≡◌, ℕ, zero, suc, ◌+◌, ◌*◌, ◌/◌, ◌%◌, ◌^◌, ◌<◌, ◌≤◌, List, unsigned_abs, ℤ, neg_ℤ, ◌+ℤ◌, ◌-ℤ◌, refl, sym, ap, ap₂, ◌∙◌, arith}
use Rattle.std.proofs.lemmas.Int.{ints}
use Rattle.ac_base.specs.Sigma.{sigma}
use Rattle.ac_base.proofs.Sums.{sigma_bound}
use Rattle.ac_base.proofs.Rearranged.{sigma_same, sigma_neg}
use Rattle.ac_convolution.specs.Negacyclic.{items}
use Rattle.ac_convolution.specs.Rows.{row, Rows, RowsWithin}
use Rattle.ac_convolution.specs.Transform.{column_of, spread_of, forward_of, half_of}
use Rattle.ac_convolution.proofs.Alternating.{wave_16, same_at, opposite_at}

pub sigma_even_odd : (n : ℕ) (f : ℕ → ℤ) → sigma (2 * n) f ≡ sigma n (λ q. f (2 * q + 0)) +ℤ sigma n (λ q. f (2 * q + 1))
unfolding sigma
sigma_even_odd zero f = refl
sigma_even_odd (suc n) f =
    let rest = sigma_even_odd n f in
    let size : 2 * suc n ≡ suc (suc (2 * n)) = omega arith in
    let sized = ap (λ r. sigma r f) size in
    let even : f (2 * n) ≡ f (2 * n + 0) = ap f (omega arith) in
    let odd : f (suc (2 * n)) ≡ f (2 * n + 1) = ap f (omega arith) in
    omega (arith, ints)

-- every other row, in the words of the numbers
half_is : (g : ℕ → ℤ) (rows : List (List ℤ)) → Rows 16 48 (spread_of g) rows → (from e s : ℕ) → from < 2 → s < 16 → half_of rows from e s ≡ sigma 8 (λ q. spread_of g (2 * q + from) (s + e * (2 * q + from)))
half_is g rows are from e s low below =
    sigma_same 8 (λ q. items (row rows (2 * q + from)) (e * (2 * q + from) % 32 + s)) (λ q. spread_of g (2 * q + from) (s + e * (2 * q + from)))
    (λ q within.
    are (2 * q + from) (omega arith) (e * (2 * q + from) % 32 + s) (omega arith)
    ∙ sym (same_at 16 (spread_of g (2 * q + from)) (wave_16 (column_of g (2 * q + from))) (e * (2 * q + from) / 32) (e * (2 * q + from) % 32 + s) (s + e * (2 * q + from)) (omega arith)))

pub forward_low : (g : ℕ → ℤ) (rows : List (List ℤ)) → Rows 16 48 (spread_of g) rows → (e s : ℕ) → s < 16 → half_of rows 0 e s +ℤ half_of rows 1 e s ≡ forward_of (spread_of g) e s
forward_low g rows are e s below =
    let even = half_is g rows are 0 e s (omega arith) below in
    let odd = half_is g rows are 1 e s (omega arith) below in
    let whole = sigma_even_odd 8 (λ a. spread_of g a (s + e * a)) in
    ap₂ ◌+ℤ◌ even odd ∙ sym whole

pub forward_high : (g : ℕ → ℤ) (rows : List (List ℤ)) → Rows 16 48 (spread_of g) rows → (e s : ℕ) → s < 16 → half_of rows 0 e s -ℤ half_of rows 1 e s ≡ forward_of (spread_of g) (e + 16) s
forward_high g rows are e s below =
    let even = half_is g rows are 0 e s (omega arith) below in
    let odd = half_is g rows are 1 e s (omega arith) below in
    let whole = sigma_even_odd 8 (λ a. spread_of g a (s + (e + 16) * a)) in
    let evens =
    sigma_same 8 (λ q. spread_of g (2 * q + 0) (s + (e + 16) * (2 * q + 0))) (λ q. spread_of g (2 * q + 0) (s + e * (2 * q + 0)))
    (λ q within. same_at 16 (spread_of g (2 * q + 0)) (wave_16 (column_of g (2 * q + 0))) q (s + e * (2 * q + 0)) (s + (e + 16) * (2 * q + 0)) (omega arith)) in
    let odds =
    sigma_same 8 (λ q. spread_of g (2 * q + 1) (s + (e + 16) * (2 * q + 1))) (λ q. neg_ℤ (spread_of g (2 * q + 1) (s + e * (2 * q + 1))))
    (λ q within. opposite_at 16 (spread_of g (2 * q + 1)) (wave_16 (column_of g (2 * q + 1))) q (s + e * (2 * q + 1)) (s + (e + 16) * (2 * q + 1)) (omega arith))
    ∙ sigma_neg 8 (λ q. spread_of g (2 * q + 1) (s + e * (2 * q + 1))) in
    omega (arith, ints)

pub some_bound : (rows : List (List ℤ)) → RowsWithin (2 ^ 24) 16 48 rows → (from e s n : ℕ) → from < 2 → s < 16 → n ≤ 8 → unsigned_abs (sigma n (λ q. items (row rows (2 * q + from)) (e * (2 * q + from) % 32 + s))) ≤ n * 2 ^ 24
some_bound rows small from e s n low below most =
    sigma_bound (λ q. items (row rows (2 * q + from)) (e * (2 * q + from) % 32 + s)) (2 ^ 24) n
    (λ q within. small (2 * q + from) (omega arith) (e * (2 * q + from) % 32 + s) (omega arith))
