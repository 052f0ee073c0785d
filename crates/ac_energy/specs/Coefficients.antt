-- The coefficients of a frame, by channel, block and bin (A/52 8.2.3).
use Rattle.std.specs.Prelude.{ℕ, ℤ, pos, List, [], slice_index_or}

-- the coefficients of a frame
abbrev pub Coefficients : Type 0
Coefficients = ℕ → ℕ → ℕ → ℤ

-- those of an array
abbrev pub entry : List (List (List ℤ)) → Coefficients
entry coefs c b k = slice_index_or (slice_index_or (slice_index_or coefs c []) b []) k (pos 0)

-- the coefficients of one channel, by block and bin
abbrev pub Channel : Type 0
Channel = ℕ → ℕ → ℤ

-- those of an array
abbrev pub cell_of : List (List ℤ) → Channel
cell_of rows b k = slice_index_or (slice_index_or rows b []) k (pos 0)
