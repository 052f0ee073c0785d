-- The samples of a channel's blocks in arrays.
use Rattle.std.specs.Prelude.{◌≡◌, ℕ, ◌+◌, ◌*◌, ◌<◌, nat_lt, if◌then◌else◌, Bool, false, List, [], ℤ, pos, slice_index_or}
use Rattle.ac_base.specs.Shape.{count_of}
use Rattle.ac_mdct.specs.Inverse.{part, sample_of}
use Rattle.ac_dec.specs.Sound.{delay_at, sample_at}

-- the coded channel of channel c in block b, by the blocks in which coupling is in use
abbrev pub row_at : ℕ → List Bool → ℕ → ℕ → ℕ
row_at full used c b = if nat_lt c full then c else full + count_of (slice_index_or used b false)

-- its coefficients there
abbrev pub coded_block : List (List (List ℤ)) → ℕ → List Bool → ℕ → ℕ → List ℤ
coded_block coefs full used c b = slice_index_or (slice_index_or coefs (row_at full used c b) []) b []

-- block b of a channel's samples is that of these coefficients over this delay (A/52 7.9.4.1, step 6)
abbrev pub IsBlockSound : List ℤ → List ℤ → ℕ → List ℤ → Type 0
IsBlockSound coefs delay b out = (t : ℕ) → t < 256
    → slice_index_or out (256 * b + t) (pos 0) ≡ sample_of (part coefs t) (slice_index_or delay t (pos 0))

-- so are the first n blocks, one behind the other
abbrev pub AreSounds : (ℕ → List ℤ) → List ℤ → ℕ → List ℤ → Type 0
AreSounds blocks first n out = (b t : ℕ) → b < n → t < 256 → slice_index_or out (256 * b + t) (pos 0) ≡ sample_at first blocks b t

-- what stands before block n
abbrev pub AreRest : (ℕ → List ℤ) → List ℤ → ℕ → List ℤ → Type 0
AreRest blocks first n delay = (t : ℕ) → t < 256 → slice_index_or delay t (pos 0) ≡ delay_at first blocks n t
