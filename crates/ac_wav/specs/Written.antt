-- The bytes of decoded sound: one head of 68 bytes (RIFF WAVE, extensible form), and samples of 24 bits. That this form is
-- written, with sizes that aren't known, is this project's own.
use Rattle.std.specs.Prelude.{ℕ, zero, suc, ◌+◌, ◌*◌, Bool, if◌then◌else◌, List, [], ◌∷◌, ◌++◌, codes, slice_index, slice_index_or, ℤ, pos}
use Rattle.std.specs.Int.{w64}
use Rattle.byteorder.specs.Endian.{little_bytes, low_bytes}
use Rattle.ac_riff.specs.Layout.{channel_count, first_mask, coded_of}
use Rattle.ac_riff.specs.Format.{pcm_subformat}

-- ---- the head

-- samples a second by fscod (A/52 5.4.1.3, Table 5.6)
abbrev pub rate_of : ℕ → ℕ
rate_of fscod = slice_index (48000 ∷ 44100 ∷ 32000 ∷ []) fscod

-- the first mask of a layout (RIFF WAVE, extensible form)
abbrev pub written_mask : ℕ → Bool → ℕ
written_mask acmod lfe = first_mask acmod + (if lfe then 8 else 0)

-- `RIFF` and `WAVE` with a size that isn't known, a `fmt ` chunk of 40 bytes, the extensible form
abbrev pub head_front : List ℕ
head_front = codes "RIFF" ++ little_bytes 4 0xFFFFFFFF ++ codes "WAVE" ++ codes "fmt " ++ little_bytes 4 40 ++ little_bytes 2 0xFFFE

-- 24 bits, an extension of 22 bytes, 24 valid bits
abbrev pub head_depth : List ℕ
head_depth = little_bytes 2 24 ++ little_bytes 2 22 ++ little_bytes 2 24

-- the subformat of PCM, and a `data` chunk that runs to the end
abbrev pub head_end : List ℕ
head_end = little_bytes 16 pcm_subformat ++ codes "data" ++ little_bytes 4 0xFFFFFFFF

-- the head of a WAV of this many channels with this rate and mask
unfoldable pub head_of_layout : ℕ → ℕ → ℕ → List ℕ
head_of_layout channels rate mask =
    head_front
    ++ little_bytes 2 channels
    ++ little_bytes 4 rate
    ++ little_bytes 4 (rate * (3 * channels))
    ++ little_bytes 2 (3 * channels)
    ++ head_depth
    ++ little_bytes 4 mask
    ++ head_end

-- the head of a WAV of a layout and a sampling code
abbrev pub head_bytes : ℕ → Bool → ℕ → List ℕ
head_bytes acmod lfe fscod = head_of_layout (channel_count acmod lfe) (rate_of fscod) (written_mask acmod lfe)

-- ---- the samples (RIFF WAVE, `data` chunk)

-- a sample of 24 bits, the least byte first
abbrev pub sample_bytes : ℤ → List ℕ
sample_bytes z = little_bytes 3 (low_bytes w64 3 z)

-- sample t of the channels at the first n places of this order
unfoldable pub places_bytes : List (List ℤ) → List ℕ → ℕ → ℕ → List ℕ
places_bytes rows coded t zero = []
places_bytes rows coded t (suc p) =
    places_bytes rows coded t p ++ sample_bytes (slice_index_or (slice_index_or rows (slice_index coded p) []) t (pos 0))

-- the first n samples of all channels
unfoldable pub samples_bytes : List (List ℤ) → List ℕ → ℕ → ℕ → List ℕ
samples_bytes rows coded channels zero = []
samples_bytes rows coded channels (suc t) = samples_bytes rows coded channels t ++ places_bytes rows coded t channels

-- the bytes of 1,536 samples of each channel of a layout
abbrev pub frame_samples : ℕ → Bool → List (List ℤ) → List ℕ
frame_samples acmod lfe rows = samples_bytes rows (coded_of acmod lfe) (channel_count acmod lfe) 1536
