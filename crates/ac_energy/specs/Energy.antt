-- Energies, by which this project chooses what is coupled and rematrixed: A/52 7.4 and 7.5 leave the choice to the encoder.
use Rattle.std.specs.Prelude.{ℕ, ◌+◌, ◌-◌, ◌*◌, ◌^◌, ◌<◌, ◌≤◌, ℤ, unsigned_abs}
use Rattle.ac_base.specs.Sigma.{sum_below}
use Rattle.ac_energy.specs.Coefficients.{Channel}

abbrev pub square : ℤ → ℕ
square x = unsigned_abs x * unsigned_abs x

-- the sum of the squares over a frame's six blocks, and the bins from `start` up to the one before `end`
unfoldable pub energy_of : Channel → ℕ → ℕ → ℕ
energy_of x start end = sum_below 6 (λ b. sum_below (end - start) (λ i. square (x b (start + i))))

-- the coefficients at these bins are below 2 ^ 24 in magnitude
abbrev pub AreSmallIn : Channel → ℕ → ℕ → Type 0
AreSmallIn x start end = (b k : ℕ) → b < 6 → start ≤ k → k < end → unsigned_abs (x b k) < 2 ^ 24
