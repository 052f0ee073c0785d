-- Sums of the magnitudes of samples.
use Rattle.std.specs.Prelude.{ℕ, List, [], ℤ, pos, slice_index_or, unsigned_abs}
use Rattle.ac_base.specs.Sigma.{sum_below}
use Rattle.ac_wav.specs.declared.written.Pcm.{Pcm}

-- the magnitude of item t
abbrev pub magnitude_at : List ℤ → ℕ → ℕ
magnitude_at row t = unsigned_abs (slice_index_or row t (pos 0))

-- the sum of those of the first n items
abbrev pub row_sum : List ℤ → ℕ → ℕ
row_sum row n = sum_below n (magnitude_at row)

-- of 1,536 samples of both channels
abbrev pub pcm_sum : Pcm → ℕ
pcm_sum pcm = sum_below 2 (λ c. row_sum (slice_index_or pcm.s c []) 1536)
