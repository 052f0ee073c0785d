-- What the pieces that are read tell of the whole list. The reader, its limit and its refusals are this project's own.
use Rattle.std.specs.Prelude.{◌≡◌, ◌≢◌, ℕ, ◌+◌, ◌≤◌, ◌<◌, min, List, length, take, drop, codes, Option}
use Rattle.ac_io.specs.Within.{IsAt, StandsIn}
use Rattle.ac_riff.specs.declared.fault.WavKind.TheVariants.{Short, NotRiff, NoFmt, NoData, BadFmt, Unsupported}
use Rattle.ac_riff.specs.declared.fault.WavFault.{WavFault}
use Rattle.ac_riff.specs.declared.fault.WavFault.TheVariants.{Bad, ReadFault, TooLong}
use Rattle.ac_riff.specs.declared.chunk.Name.{Name}
use Rattle.ac_riff.specs.declared.chunk.Name.TheVariants as names
use Rattle.ac_riff.specs.declared.chunk.ChunkHead.{ChunkHead}
use Rattle.ac_riff.specs.declared.format.Format.{Format}
use Rattle.ac_riff.specs.declared.head.Found.{Found}
use Rattle.ac_riff.specs.declared.head.Samples.{Samples}
use Rattle.ac_riff.specs.Format.{format_of}
use Rattle.ac_riff.specs.Form.{name_of, size_of, whole_length, body_of, IsFormatted}

-- why up to n bytes weren't read: byte number limit + 1 is needed, and there
abbrev pub IsUnread : List ℕ → ℕ → ℕ → ℕ → WavFault → Type 0
IsUnread bytes taken n limit (Bad kind place) = ⊥
IsUnread bytes taken n limit ReadFault = Unit {0}
IsUnread bytes taken n limit TooLong = (limit < length bytes) × (limit < taken + n)

-- what is left where up to n bytes behind the first `taken` weren't read: all behind byte number limit + 1 where that was needed;
-- where a read failed, and the source still tells its bytes, fewer than n of them were lost, and none past the limit
abbrev pub UnreadLeaves : List ℕ → ℕ → ℕ → ℕ → WavFault → Option (List ℕ) → Type 0
UnreadLeaves bytes taken n limit (Bad kind place) left = ⊥
UnreadLeaves bytes taken n limit ReadFault left = StandsIn bytes taken (min (taken + n) (limit + 1)) left
UnreadLeaves bytes taken n limit TooLong left = IsAt bytes (limit + 1) left

-- why n bytes weren't taken: the list ends before, or the limit is passed
abbrev pub IsUntaken : List ℕ → ℕ → ℕ → ℕ → WavFault → Type 0
IsUntaken bytes taken n limit (Bad Short place) = (place ≡ length bytes) × (length bytes < taken + n) × (length bytes ≤ limit)
IsUntaken bytes taken n limit (Bad NotRiff place) = ⊥
IsUntaken bytes taken n limit (Bad NoFmt place) = ⊥
IsUntaken bytes taken n limit (Bad NoData place) = ⊥
IsUntaken bytes taken n limit (Bad (BadFmt field) place) = ⊥
IsUntaken bytes taken n limit (Bad (Unsupported field value) place) = ⊥
IsUntaken bytes taken n limit ReadFault = Unit {0}
IsUntaken bytes taken n limit TooLong = (limit < length bytes) × (limit < taken + n)

-- ---- chunks (RIFF: a name of four bytes, a size in four, so many bytes, and a pad byte after an odd size)

-- what a name is
abbrev pub NameIs : Name → List ℕ → Type 0
NameIs names.Format name = name ≡ codes "fmt "
NameIs names.Samples name = name ≡ codes "data"
NameIs names.Other name = (name ≢ codes "fmt ") × (name ≢ codes "data")

-- the head of the chunk at this place was read
pub record ChunkRead (bytes : List ℕ) (place : ℕ) (chunk : ChunkHead) (left : Option (List ℕ)) : Type 0 where
  pub at : IsAt bytes (place + 8) left
  pub named : NameIs chunk.name (name_of (drop place bytes))
  pub size_is : chunk.size ≡ size_of (drop place bytes)

-- why no head of a chunk was read at this place
abbrev pub IsNoChunk : List ℕ → ℕ → ℕ → WavFault → Type 0
IsNoChunk bytes place limit (Bad NoData at) = (at ≡ length bytes) × (place ≡ length bytes)
IsNoChunk bytes place limit (Bad Short at) = (at ≡ length bytes) × (place < length bytes) × (length bytes < place + 8)
    × (length bytes ≤ limit)
IsNoChunk bytes place limit (Bad NotRiff at) = ⊥
IsNoChunk bytes place limit (Bad NoFmt at) = ⊥
IsNoChunk bytes place limit (Bad (BadFmt field) at) = ⊥
IsNoChunk bytes place limit (Bad (Unsupported field value) at) = ⊥
IsNoChunk bytes place limit ReadFault = Unit {0}
IsNoChunk bytes place limit TooLong = (limit < length bytes) × (limit < place + 8)

-- the whole chunk at this place
abbrev pub chunk_at : ℕ → List ℕ → List ℕ
chunk_at place bytes = take (whole_length (size_of (drop place bytes))) (drop place bytes)

-- the `fmt ` chunk at this place was read, with its pad byte
pub record FormatRead (bytes : List ℕ) (place : ℕ) (format : Format) (left : Option (List ℕ)) : Type 0 where
  pub at : IsAt bytes (place + whole_length (size_of (drop place bytes))) left
  pub says : format ≡ format_of (body_of (chunk_at place bytes))

-- the first `fmt ` chunk was found and accepted
pub record IsFound (bytes : List ℕ) (found : Found) (left : Option (List ℕ)) : Type 0 where
  pub chunk : List ℕ
  pub formatted : IsFormatted bytes chunk found.end
  pub says : found.format ≡ format_of (body_of chunk)
  pub at : IsAt bytes found.end left

-- the `data` chunk was found behind this `fmt ` chunk
pub record DataFound (bytes chunk : List ℕ) (samples : Samples) (left : Option (List ℕ)) : Type 0 where
  pub place : ℕ
  pub formatted : IsFormatted bytes chunk place
  pub named : name_of (drop place bytes) ≡ codes "data"
  pub size_is : samples.size ≡ size_of (drop place bytes)
  pub place_is : samples.place ≡ place + 8
  pub at : IsAt bytes samples.place left
