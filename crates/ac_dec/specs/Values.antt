-- What can be read as values: each code is one of its pointer, and each pointer and exponent has a value (A/52 7.3.3, 7.3.4).
use Rattle.std.specs.Prelude.{ℕ, ◌<◌, ◌≤◌, List, [], slice_index, slice_index_or}
use Rattle.ac_mant.specs.Quantiser.{IsCode}
use Rattle.ac_record.specs.Frames.{FrameCodes}

pub record IsReadable (code bap exponent : ℕ) : Type 0 where
  pub is_pointer : bap ≤ 15
  pub is_code : IsCode bap code
  pub is_small : exponent ≤ 24

-- each bin of a row
abbrev pub IsReadableRow : List ℕ → List ℕ → List ℕ → Type 0
IsReadableRow codes baps exps = (k : ℕ) → k < 256 → IsReadable (slice_index codes k) (slice_index baps k) (slice_index exps k)

-- each block of a channel
abbrev pub AreReadableRows : List (List ℕ) → List (List ℕ) → List (List ℕ) → Type 0
AreReadableRows codes baps exps =
    (b : ℕ) → b < 6 → IsReadableRow (slice_index_or codes b []) (slice_index_or baps b []) (slice_index_or exps b [])

-- each channel of a reading
abbrev pub AreReadable : FrameCodes → Type 0
AreReadable g = (c : ℕ) → c < 7
    → AreReadableRows (slice_index_or g.codes c []) (slice_index_or g.baps c []) (slice_index_or g.exps c [])
