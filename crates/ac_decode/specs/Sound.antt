-- The WAV that decode writes of frames: the head before the first, and 1,536 samples of each channel of each frame (A/52 5.3).
-- That it is so written is this project's own.
use Rattle.std.specs.Prelude.{◌≡◌, ℕ, zero, suc, ◌+◌, ◌*◌, ◌<◌, List, [], ◌∷◌, ◌++◌, slice_index_or, ℤ, pos}
use Rattle.ac_wav.specs.Written.{head_bytes, frame_samples}
use Rattle.ac_reading.specs.Framed.{Reading}
use Rattle.ac_dec.specs.Heard.{channels_of}
use Rattle.ac_dec.specs.Sound.{sound_of}

-- the rows are the samples of frame i of these, whose channels are those of g
abbrev pub AreSamples : List Reading → ℕ → Reading → List (List ℤ) → Type 0
AreSamples all i g rows = (c b t : ℕ) → c < channels_of g → b < 6 → t < 256
    → slice_index_or (slice_index_or rows c []) (256 * b + t) (pos 0) ≡ sound_of all c (6 * i + b) t

-- before the first frame alone
abbrev pub at_start : ℕ → List ℕ → List ℕ
at_start zero piece = piece
at_start (suc i) piece = []

-- what frame i of these, which is g, adds to the WAV: the head before the first, and its samples
abbrev pub IsPiece : List Reading → ℕ → Reading → List ℕ → Type 0
IsPiece all i g piece = (rows : List (List ℤ)) × AreSamples all i g rows
    × (piece ≡ at_start i (head_bytes g.head.acmod g.head.lfeon g.head.fscod) ++ frame_samples g.head.acmod g.head.lfeon rows)

-- what those from number i on add
unfoldable pub ArePieces : List Reading → ℕ → List Reading → List ℕ → Type 0
ArePieces all i [] wav = wav ≡ []
ArePieces all i (g ∷ gs) wav = (piece more : List ℕ) × IsPiece all i g piece × ArePieces all (suc i) gs more × (wav ≡ piece ++ more)

-- the WAV of these frames; of none it is empty
abbrev pub IsWav : List Reading → List ℕ → Type 0
IsWav gs wav = ArePieces gs 0 gs wav
