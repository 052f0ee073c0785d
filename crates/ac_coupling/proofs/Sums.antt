-- Means and energies, bin by bin.
use Rattle.std.proofs.Common.{◌≡◌, ℕ, zero, suc, ◌+◌, ◌-◌, ◌*◌, ◌^◌, ◌<◌, ◌≤◌, ℤ, pos, negsuc, unsigned_abs, refl, ap, arith}
use Rattle.std.specs.Prelude.{Bool, nat_le}
use Rattle.std.proofs.lemmas.Nat.{div_below}
use Rattle.ac_base.specs.Floor.{floor_div}
use Rattle.ac_base.specs.Sigma.{sum_below}
use Rattle.ac_base.proofs.Sums.{sigma_bound}
use Rattle.ac_energy.specs.Coefficients.{Coefficients, Channel}
use Rattle.ac_energy.specs.Energy.{square, energy_of}
use Rattle.ac_coupling.specs.Coupling.{mean_of}

floor_small : (d : ℕ) (z : ℤ) → 1 ≤ d → unsigned_abs z ≤ d * (2 ^ 24 - 1) → unsigned_abs (floor_div z d) < 2 ^ 24
floor_small d (pos n) some bound = div_below n d (2 ^ 24) (omega arith) (omega (arith, bound))
floor_small d (negsuc n) some bound =
    let below = div_below n d (2 ^ 24 - 1) (omega arith) (omega (arith, bound)) in
    omega (arith, below)

-- a mean is as small as the channels
pub mean_small : (full : ℕ) (x : Coefficients) (b k : ℕ) → 1 ≤ full → ((c : ℕ) → c < full → unsigned_abs (x c b k) < 2 ^ 24) → unsigned_abs (mean_of full x b k) < 2 ^ 24
mean_small full x b k some small =
    floor_small full _ some (sigma_bound (λ c. x c b k) (2 ^ 24 - 1) full (λ c below. let s = small c below in omega (arith, s)))

sum_same : (n : ℕ) (f g : ℕ → ℕ) → ((i : ℕ) → i < n → f i ≡ g i) → sum_below n f ≡ sum_below n g
unfolding sum_below
sum_same zero f g same = refl
sum_same (suc n) f g same =
    let rest = sum_same n f g (λ i below. same i (omega arith)) in
    let here = same n (omega arith) in
    omega (arith, rest, here)

-- channels that are the same at these bins have one energy there
pub energy_same : (x y : Channel) (start end : ℕ) → ((b k : ℕ) → b < 6 → start ≤ k → k < end → x b k ≡ y b k) → energy_of x start end ≡ energy_of y start end
unfolding energy_of
energy_same x y start end same =
    sum_same 6 (λ b. sum_below (end - start) (λ i. square (x b (start + i)))) (λ b. sum_below (end - start) (λ i. square (y b (start + i)))) (λ b block.
    sum_same (end - start) (λ i. square (x b (start + i))) (λ i. square (y b (start + i))) (λ i below. ap square (same b (start + i) block (omega arith) (omega arith))))

-- the test of energies, by the channels' number and bins
abbrev pub is_worth_at : ℕ → ℕ → ℕ → Coefficients → Bool
is_worth_at full start end x =
    nat_le (sum_below full (λ c. energy_of (x c) start end)) (4 * full * energy_of (mean_of full x) start end)
