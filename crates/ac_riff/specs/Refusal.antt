-- Why a list of bytes is refused, and at which place: the first rule that fails, chunk by chunk. The rules are those of
-- RIFF WAVE and its `fmt ` chunk; the kinds, the places, their order and the limit are this project's own.
use Rattle.std.specs.Prelude.{◌≡◌, ◌≢◌, ℕ, ◌+◌, ◌≤◌, ◌<◌, ◌⊎◌, List, length, take, drop, codes, Option, Some, Result, Ok, Err}
use Rattle.ac_io.specs.Within.{IsAt, TakesAtMost}
use Rattle.ac_riff.specs.declared.fault.WavKind.{WavKind}
use Rattle.ac_riff.specs.declared.fault.WavKind.TheVariants.{Short, NotRiff, NoFmt, NoData, BadFmt, Unsupported}
use Rattle.ac_riff.specs.declared.fault.WavFault.{WavFault}
use Rattle.ac_riff.specs.declared.fault.WavFault.TheVariants.{Bad, ReadFault, TooLong}
use Rattle.ac_riff.specs.declared.format.Fault.{Fault}
use Rattle.ac_riff.specs.declared.head.WavHead.{WavHead}
use Rattle.ac_riff.specs.Format.{format_of, fault_of}
use Rattle.ac_riff.specs.Form.{name_of, size_of, whole_length, body_of, IsChunk, IsOpen, IsFormatted, IsDataAt, IsHead}

-- a chunk can begin at this place, before or behind the `fmt ` chunk
abbrev pub Reaches : List ℕ → ℕ → Type 0
Reaches bytes place = IsOpen bytes place ⊎ ((chunk : List ℕ) × IsFormatted bytes chunk place)

-- the chunk that begins at this place is cut: the list ends inside its head, or inside it where it isn't `data`
abbrev pub IsCutAt : List ℕ → ℕ → Type 0
IsCutAt bytes place = (place < length bytes) × ((length bytes < place + 8)
    ⊎ ((place + 8 ≤ length bytes) × (name_of (drop place bytes) ≢ codes "data")
    × (length bytes < place + whole_length (size_of (drop place bytes)))))

-- the list ends inside its 12-byte head, or inside a chunk before the data
abbrev pub IsCut : List ℕ → Type 0
IsCut bytes = (length bytes < 12) ⊎ ((place : ℕ) × Reaches bytes place × IsCutAt bytes place)

-- the first four bytes, or bytes 8 to 11, have another name
abbrev pub IsNoRiff : List ℕ → ℕ → Type 0
IsNoRiff bytes place = ((place ≡ 0) × (take 4 bytes ≢ codes "RIFF"))
    ⊎ ((place ≡ 8) × (take 4 bytes ≡ codes "RIFF") × (take 4 (drop 8 bytes) ≢ codes "WAVE"))

-- the first `fmt ` chunk is whole, and this is the first of its tests that fails, at its field's place
pub record IsFaulty (bytes : List ℕ) (kind : WavKind) (place : ℕ) : Type 0 where
  pub start : ℕ
  pub opened : IsOpen bytes start
  pub chunk : List ℕ
  pub whole : IsChunk chunk
  pub named : name_of chunk ≡ codes "fmt "
  pub within : start + length chunk ≤ length bytes
  pub same : take (length chunk) (drop start bytes) ≡ chunk
  pub fault : Fault
  pub first : fault_of (format_of (body_of chunk)) ≡ Some fault
  pub kind_is : fault.kind ≡ kind
  pub place_is : place ≡ start + fault.place

-- the list is refused before its data begin: why, and at which place
abbrev pub Refuses : List ℕ → WavKind → ℕ → Type 0
Refuses bytes Short place = (place ≡ length bytes) × IsCut bytes
Refuses bytes NotRiff place = (12 ≤ length bytes) × IsNoRiff bytes place
Refuses bytes NoFmt place = IsOpen bytes place × IsDataAt bytes place
Refuses bytes NoData place = (place ≡ length bytes) × Reaches bytes place
Refuses bytes (BadFmt field) place = IsFaulty bytes (BadFmt field) place
Refuses bytes (Unsupported field value) place = IsFaulty bytes (Unsupported field value) place

-- more than the first `limit` bytes are needed to read the head or to refuse it, and more are there
abbrev pub IsTooLong : List ℕ → ℕ → Type 0
IsTooLong bytes limit = (limit < length bytes) × (Refuses (take limit bytes) Short limit ⊎ Refuses (take limit bytes) NoData limit)

-- why a head wasn't read. A refusal needs no byte past the limit: the first `limit` bytes are refused so too
abbrev pub IsStopped : List ℕ → ℕ → WavFault → Type 0
IsStopped bytes limit (Bad kind place) = Refuses bytes kind place × Refuses (take limit bytes) kind place
IsStopped bytes limit ReadFault = Unit {0}
IsStopped bytes limit TooLong = IsTooLong bytes limit

-- what is left where a head wasn't read: nothing where the list ends too early; all behind byte number limit + 1 where that was
-- needed; else at most `limit` bytes were taken, where the source still tells what is left
abbrev pub RefusalLeaves : List ℕ → ℕ → WavFault → Option (List ℕ) → Type 0
RefusalLeaves bytes limit (Bad Short place) left = IsAt bytes (length bytes) left
RefusalLeaves bytes limit (Bad NoData place) left = IsAt bytes (length bytes) left
RefusalLeaves bytes limit (Bad NotRiff place) left = TakesAtMost bytes limit left
RefusalLeaves bytes limit (Bad NoFmt place) left = TakesAtMost bytes limit left
RefusalLeaves bytes limit (Bad (BadFmt field) place) left = TakesAtMost bytes limit left
RefusalLeaves bytes limit (Bad (Unsupported field value) place) left = TakesAtMost bytes limit left
RefusalLeaves bytes limit ReadFault left = TakesAtMost bytes limit left
RefusalLeaves bytes limit TooLong left = IsAt bytes (limit + 1) left

-- the list begins with this head, which was read within the limit and not past it
pub record HeadRead (bytes : List ℕ) (limit : ℕ) (head : WavHead) (left : Option (List ℕ)) : Type 0 where
  pub is : IsHead bytes head
  pub within : head.taken ≤ limit
  pub left_is : left ≡ Some (drop head.taken bytes)

-- where no read fails, the answer is the refusal whose cause is there, or the head that is there
pub record ReadsExactly (bytes : List ℕ) (limit : ℕ) (result : Result WavHead WavFault) : Type 0 where
  pub too_long : IsTooLong bytes limit → result ≡ Err TooLong
  pub refused : (kind : WavKind) (place : ℕ) → Refuses bytes kind place → Refuses (take limit bytes) kind place
      → result ≡ Err (Bad kind place)
  pub accepted : (head : WavHead) → IsHead bytes head → head.taken ≤ limit → result ≡ Ok head
