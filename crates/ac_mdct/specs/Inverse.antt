-- What the inverse transform gives (A/52 7.9.4.1): the sums, the window and the overlap with the block before. The scales, the roundings and
-- the clamp are this project's profile.
use Rattle.std.specs.Prelude.{◌≡◌, ℕ, ◌+◌, ◌-◌, ◌^◌, ◌<◌, List, ℤ, pos, neg_ℤ, ◌+ℤ◌, ◌*ℤ◌, slice_index_or}
use Rattle.std.specs.Int.{int_max, int_min}
use Rattle.ac_base.specs.Floor.{floor_div}
use Rattle.ac_base.specs.Sigma.{sigma}
use Rattle.ac_base.specs.Cosine.{cosine_at}
use Rattle.ac_base.specs.Window.{window_of}
use Rattle.ac_mdct.specs.Forward.{phase}

-- T(n): the sum of the inverse transform at place n, up to its sign and scale (A/52 7.9.4.1, steps 1 to 4)
abbrev pub inverse_sum : List ℤ → ℕ → ℤ
inverse_sum coefs n = sigma 256 (λ k. slice_index_or coefs k (pos 0) *ℤ cosine_at (phase k n))

-- y(n)·w(n), from T(n) and w(n): y(n) is T(n) rounded (profile), under the window (A/52 7.9.4.1, step 5)
unfoldable pub part_of : ℤ → ℤ → ℤ
part_of t w = floor_div (neg_ℤ t +ℤ pos (2 ^ 21)) (2 ^ 22) *ℤ w

-- p(n): place n of what this block adds
abbrev pub part : List ℤ → ℕ → ℤ
part coefs n = part_of (inverse_sum coefs n) (window_of n)

-- two overlapping parts as a sample (A/52 7.9.4.1, step 6), rounded once and clamped to 24 bits (profile)
unfoldable pub sample_of : ℤ → ℤ → ℤ
sample_of p d = int_max (neg_ℤ (pos (2 ^ 23))) (int_min (floor_div ((p +ℤ d) +ℤ pos (2 ^ 22)) (2 ^ 23)) (pos (2 ^ 23 - 1)))

-- out is the samples of the coefficients over the delay (A/52 7.9.4.1, step 6)
abbrev pub IsSound : List ℤ → List ℤ → List ℤ → Type 0
IsSound coefs delay out = (n : ℕ) → n < 256 → slice_index_or out n (pos 0) ≡ sample_of (part coefs n) (slice_index_or delay n (pos 0))

-- delay is what the coefficients leave for the next block (A/52 7.9.4.1, step 6)
abbrev pub IsDelay : List ℤ → List ℤ → Type 0
IsDelay coefs delay = (n : ℕ) → n < 256 → slice_index_or delay n (pos 0) ≡ part coefs (n + 256)
