-- RIFF WAVE as a whole list of bytes: the 12-byte head, chunks that are passed over, the `fmt ` chunk, chunks that are
-- passed over, the `data` chunk, and a rest that isn't looked at. Places count from 0 at the first byte.
use Rattle.std.specs.Prelude.{◌≡◌, ◌≢◌, ℕ, ◌+◌, ◌%◌, ◌≤◌, ◌==◌, List, ◌++◌, length, take, drop, codes, All, Option, Some, None, if◌then◌else◌}
use Rattle.std.specs.List.{concat}
use Rattle.ac_riff.specs.declared.format.Format.{Format}
use Rattle.ac_riff.specs.declared.head.WavHead.{WavHead}
use Rattle.ac_riff.specs.Layout.{has_lfe, acmod_of, order_of, channel_count}
use Rattle.ac_riff.specs.Format.{number_at, format_of, fault_of, layout_of, fscod_of}

-- ---- chunks (RIFF: a name of four bytes, a size in four, so many bytes, and a pad byte after an odd size)

-- the name of the chunk that the bytes begin with
abbrev pub name_of : List ℕ → List ℕ
name_of bytes = take 4 bytes

-- the size that it states
abbrev pub size_of : List ℕ → ℕ
size_of bytes = number_at 4 4 bytes

-- the bytes of a chunk of this size, with the pad byte after an odd size
abbrev pub padded : ℕ → ℕ
padded size = size + size % 2

-- the length of a whole chunk: name, size, bytes, pad byte
abbrev pub whole_length : ℕ → ℕ
whole_length size = 8 + padded size

-- the chunk's own bytes
abbrev pub body_of : List ℕ → List ℕ
body_of chunk = take (size_of chunk) (drop 8 chunk)

-- a whole chunk, and nothing else
pub record IsChunk (chunk : List ℕ) : Type 0 where
  pub long : length chunk ≡ whole_length (size_of chunk)

-- a chunk that is passed over before the `fmt ` chunk
pub record IsPassedBefore (chunk : List ℕ) : Type 0 where
  pub whole : IsChunk chunk
  pub no_format : name_of chunk ≢ codes "fmt "
  pub no_data : name_of chunk ≢ codes "data"

-- a chunk that is passed over behind the `fmt ` chunk; a second `fmt ` chunk is one
pub record IsPassedBehind (chunk : List ℕ) : Type 0 where
  pub whole : IsChunk chunk
  pub no_data : name_of chunk ≢ codes "data"

-- ---- the list (RIFF WAVE: `RIFF`, a size, `WAVE`, then chunks, the `fmt ` chunk before the `data` chunk).
-- Which chunks are passed over is this project's profile.

-- the list begins with the 12-byte head of RIFF WAVE. That the RIFF size isn't looked at is this project's profile
pub record IsRiff (bytes : List ℕ) : Type 0 where
  pub long : 12 ≤ length bytes
  pub riff : take 4 bytes ≡ codes "RIFF"
  pub wave : take 4 (drop 8 bytes) ≡ codes "WAVE"

-- before this place stand the 12-byte head and chunks that are passed over
pub record IsOpen (bytes : List ℕ) (place : ℕ) : Type 0 where
  pub riff : IsRiff bytes
  pub passed : List (List ℕ)
  pub before : All IsPassedBefore passed
  pub same : take place bytes ≡ take 12 bytes ++ concat passed
  pub within : place ≤ length bytes

-- before this place stand the 12-byte head, chunks that are passed over, this accepted `fmt ` chunk, and chunks that are passed over
pub record IsFormatted (bytes chunk : List ℕ) (place : ℕ) : Type 0 where
  pub start : ℕ
  pub opened : IsOpen bytes start
  pub whole : IsChunk chunk
  pub named : name_of chunk ≡ codes "fmt "
  pub accepted : fault_of (format_of (body_of chunk)) ≡ None
  pub passed : List (List ℕ)
  pub behind : All IsPassedBehind passed
  pub same : take place bytes ≡ take start bytes ++ (chunk ++ concat passed)
  pub within : place ≤ length bytes

-- the head of a `data` chunk stands at this place
pub record IsDataAt (bytes : List ℕ) (place : ℕ) : Type 0 where
  pub long : place + 8 ≤ length bytes
  pub named : name_of (drop place bytes) ≡ codes "data"

-- ---- what a head says, in this project's own form

-- the size of the data; none where they run to the end of the input, as 0xFFFFFFFF says in this project's profile
abbrev pub data_size : ℕ → Option ℕ
data_size size = if size == 0xFFFFFFFF then None else Some size

-- what a head says: its format (`fmt ` chunk; A/52 5.4.1.3, 5.4.2.3), the size of its data, and the number of bytes before the data
abbrev pub head_of : Format → ℕ → ℕ → WavHead
head_of f size taken = record {
  fscod = fscod_of f.rate;
  acmod = acmod_of (layout_of f);
  lfe = has_lfe (layout_of f);
  bits = f.bits;
  channels = f.channels;
  order = order_of (acmod_of (layout_of f)) (has_lfe (layout_of f));
  size = data_size size;
  taken = taken;
}

-- the fields of a head are those of a WAV of this project's profile
pub record IsOfProfile (head : WavHead) : Type 0 where
  pub fscod_most : head.fscod ≤ 2
  pub acmod_least : 1 ≤ head.acmod
  pub acmod_most : head.acmod ≤ 7
  pub bits_least : 16 ≤ head.bits
  pub bits_most : head.bits ≤ 24
  pub bits_whole : head.bits % 8 ≡ 0
  pub count : head.channels ≡ channel_count head.acmod head.lfe
  pub order_is : head.order ≡ order_of head.acmod head.lfe

-- the list begins with this head
pub record IsHead (bytes : List ℕ) (head : WavHead) : Type 0 where
  pub chunk : List ℕ
  pub place : ℕ
  pub formatted : IsFormatted bytes chunk place
  pub at : IsDataAt bytes place
  pub says : head ≡ head_of (format_of (body_of chunk)) (size_of (drop place bytes)) (place + 8)
