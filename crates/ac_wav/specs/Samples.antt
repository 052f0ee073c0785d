-- The samples of a WAV (RIFF WAVE, `data` chunk: those of all channels side by side, little endian, in two's complement):
-- 24 bits, by coded channels, LFE last. Those of 16 bits are multiplied by 256, which is this project's own.
use Rattle.std.specs.Prelude.{◌≡◌, ℕ, ◌+◌, ◌-◌, ◌*◌, ◌/◌, ◌^◌, ◌<◌, ◌≤◌, min, ◌==◌, ◌&&◌, nat_lt, if◌then◌else◌, List, [], length, drop, take, slice_index, slice_index_or, Option, Some, None, Result, Err, ℤ, pos, ◌*ℤ◌, unsigned_abs}
use Rattle.byteorder.specs.Endian.{little_number, twos_complement}
use Rattle.ac_riff.specs.declared.fault.WavKind.TheVariants.{Short, NotRiff, NoFmt, NoData, BadFmt, Unsupported}
use Rattle.ac_riff.specs.declared.fault.WavFault.{WavFault}
use Rattle.ac_riff.specs.declared.fault.WavFault.TheVariants.{Bad, ReadFault, TooLong}
use Rattle.ac_riff.specs.declared.head.WavHead.{WavHead}
use Rattle.ac_io.specs.Within.{IsAt, StandsIn}

-- the bytes of one sample
abbrev pub width_of : WavHead → ℕ
width_of head = head.bits / 8

-- the bytes of one sample of all channels
abbrev pub align_of : WavHead → ℕ
align_of head = head.channels * width_of head

-- the sample in the first bytes
abbrev pub value_of : ℕ → List ℕ → ℤ
value_of bits bytes = if bits == 16 then twos_complement 2 (little_number 2 bytes) *ℤ pos 256 else twos_complement 3 (little_number 3 bytes)

-- how far behind the first byte sample j of coded channel c stands
abbrev pub offset_of : WavHead → ℕ → ℕ → ℕ
offset_of head c j = j * align_of head + slice_index head.order c * width_of head

-- sample j of coded channel c among `count` whole samples in these bytes; 0 elsewhere
unfoldable pub sample_in : WavHead → ℕ → List ℕ → ℕ → ℕ → ℤ
sample_in head count bytes c j =
    if nat_lt c head.channels && nat_lt j count then value_of head.bits (drop (offset_of head c j) bytes) else pos 0

-- the number of bytes of the data: as stated, or all that is there (RIFF WAVE, `data` chunk)
abbrev pub stated : Option ℕ → ℕ → ℕ
stated None there = there
stated (Some size) there = size

-- the number of bytes of the data behind a head
abbrev pub data_length : WavHead → List ℕ → ℕ
data_length head bytes = stated head.size (length bytes - head.taken)

-- the number of whole samples of each channel; a rest of less than one align is none
abbrev pub sample_count : WavHead → List ℕ → ℕ
sample_count head bytes = data_length head bytes / align_of head

-- sample j of coded channel c; 0 past the end, and where there is no such channel
abbrev pub sample_at : WavHead → List ℕ → ℕ → ℕ → ℤ
sample_at head bytes c j = sample_in head (sample_count head bytes) (drop head.taken bytes) c j

-- ---- reading them, 1,536 of each channel at a time, as a frame has (A/52 5.3). The reader is this project's own

-- the 1,536 entries of a row are f 0, f 1 ..
abbrev pub RowIs : (ℕ → ℤ) → List ℤ → Type 0
RowIs f row = (t : ℕ) → t < 1536 → slice_index_or row t (pos 0) ≡ f t

-- the entries of a row have 24 bits
abbrev pub RowWithin : List ℤ → Type 0
RowWithin row = (t : ℕ) → t < 1536 → unsigned_abs (slice_index_or row t (pos 0)) ≤ 2 ^ 23

-- all six rows
abbrev pub RowsAre : (ℕ → ℕ → ℤ) → List (List ℤ) → Type 0
RowsAre f rows = (c : ℕ) → c < 6 → RowIs (f c) (slice_index_or rows c [])

-- all six rows have 24 bits
abbrev pub RowsWithin : List (List ℤ) → Type 0
RowsWithin rows = (c : ℕ) → c < 6 → RowWithin (slice_index_or rows c [])

-- the number of bytes that the next 1,536 samples ask for: no more than what is left of a stated size
abbrev pub part_of : Option ℕ → ℕ → ℕ → ℕ
part_of None full done = full
part_of (Some size) full done = min full (size - done)

-- and where so many bytes are taken
abbrev pub frame_bytes : WavHead → ℕ → ℕ
frame_bytes head taken = part_of head.size (1536 * align_of head) (taken - head.taken)

-- the next n samples of each channel, from sample `from` on, were read behind the first `before` bytes, and now `after` are taken
pub record SamplesRead (bytes : List ℕ) (head : WavHead) (before «from» after n : ℕ) (rows : List (List ℤ))
    (left : Option (List ℕ)) : Type 0 where
  pub count : n ≡ min 1536 (sample_count head bytes - «from»)
  pub rows_are : RowsAre (λ c t. sample_at head bytes c («from» + t)) rows
  pub at : IsAt bytes after left
  pub more : n ≡ 1536 → after ≡ before + 1536 * align_of head
  pub end : n < 1536 → after ≡ head.taken + data_length head bytes

-- why the next samples weren't read: the data are cut, or a byte past the limit is needed and there
abbrev pub IsUnsampled : List ℕ → WavHead → ℕ → ℕ → WavFault → Type 0
IsUnsampled bytes head before limit (Bad Short place) = (place ≡ length bytes) × (length bytes < head.taken + data_length head bytes)
    × (length bytes < before + frame_bytes head before) × (length bytes ≤ limit)
IsUnsampled bytes head before limit (Bad NotRiff place) = ⊥
IsUnsampled bytes head before limit (Bad NoFmt place) = ⊥
IsUnsampled bytes head before limit (Bad NoData place) = ⊥
IsUnsampled bytes head before limit (Bad (BadFmt field) place) = ⊥
IsUnsampled bytes head before limit (Bad (Unsupported field value) place) = ⊥
IsUnsampled bytes head before limit ReadFault = Unit {0}
IsUnsampled bytes head before limit TooLong = (limit < length bytes) × (limit < before + frame_bytes head before)

-- what is left where they weren't read: nothing where the data are cut; all behind byte number limit + 1 where that was needed;
-- where a read failed, and the source still tells its bytes, it lost fewer behind the first `before` than the next 1,536 samples
-- ask for, and none past the limit
abbrev pub UnsampledLeaves : List ℕ → WavHead → ℕ → ℕ → WavFault → Option (List ℕ) → Type 0
UnsampledLeaves bytes head before limit (Bad kind place) left = IsAt bytes (length bytes) left
UnsampledLeaves bytes head before limit ReadFault left = StandsIn bytes before (min (before + frame_bytes head before) (limit + 1)) left
UnsampledLeaves bytes head before limit TooLong left = IsAt bytes (limit + 1) left

-- the number of whole samples of each channel in the data bytes among the first `taken`; byte number limit + 1 isn't counted
abbrev pub samples_taken : WavHead → ℕ → ℕ → ℕ
samples_taken head limit taken = (min taken limit - head.taken) / align_of head

-- where the source still tells what is left, the data bytes that were taken hold so many whole frames of 1,536 samples of each
-- channel, and no more (A/52 5.3)
abbrev pub FramesTaken : List ℕ → WavHead → ℕ → ℕ → Option (List ℕ) → Type 0
FramesTaken bytes head limit frames None = Unit {0}
FramesTaken bytes head limit frames (Some rest) = (taken : ℕ) × IsAt bytes taken (Some rest)
    × (frames ≡ samples_taken head limit taken / 1536)

-- where no read fails, the answer is the refusal whose cause is there
pub record StopsExactly (bytes : List ℕ) (head : WavHead) (before limit : ℕ) (result : Result ℕ WavFault) : Type 0 where
  pub too_long : IsUnsampled bytes head before limit TooLong → result ≡ Err TooLong
  pub short : IsUnsampled bytes head before limit (Bad Short (length bytes)) → result ≡ Err (Bad Short (length bytes))

-- a body stands at its head's end or behind it, and within a stated size
pub record IsStanding (head : WavHead) (taken : ℕ) : Type 0 where
  pub least : head.taken ≤ taken
  pub most : taken ≤ head.taken + stated head.size taken

-- n bytes of the data were read into the front of a piece; fewer than 1,536 samples ask for only at the end of the data
pub record PartRead (bytes : List ℕ) (head : WavHead) (taken n : ℕ) (piece : List ℕ) (left : Option (List ℕ)) : Type 0 where
  pub at : IsAt bytes (taken + n) left
  pub front : take n piece ≡ take n (drop taken bytes)
  pub inside : taken + n ≤ head.taken + data_length head bytes
  pub whole : n < 1536 * align_of head → taken + n ≡ head.taken + data_length head bytes
