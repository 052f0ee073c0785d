use Rattle.std.proofs.Common.{◌≡◌, ◌<◌, ℕ, length, slice_index_or}
use Rattle.ac_separation.specs.Separation.{band_of}
use Rattle.ac_separation.proofs.bands.subband_bands.Given as goal

abbrev pub invariant-loop-n : goal.invariant-loop-n
invariant-loop-n l = (length l.bands ≡ 18) × ((n : ℕ) → n < l.n → slice_index_or l.bands n 0 ≡ band_of l.block n)
