-- Laws of the fields that this encoder sends.
use Rattle.std.specs.Prelude.{◌≡◌, ℕ, ◌+◌, ◌*◌, ◌<◌, ◌≤◌, ◌^◌, Bool, List, length}
use Rattle.ac_base.specs.Fit.{FitIn}
use Rattle.ac_base.specs.Sizes.{front_room, end_room, tail_bits}
use Rattle.ac_base.specs.Spans.{IsIn}
use Rattle.ac_base.specs.declared.sizes.Parts.{Parts}
use Rattle.ac_bits.specs.Bits.{bits_of}
use Rattle.ac_expo.specs.Raw.{channel_span, channels}
use Rattle.ac_rows.specs.Filled.{listed}
use Rattle.ac_record.specs.Frames.{FrameCodes}
use Rattle.ac_record.specs.Readings.{cell, IsReading}
use Rattle.ac_record.specs.Records.{IsRecord, record_spelled}
use Rattle.std.specs.Prelude.{slice_index}
use Rattle.ac_sent.specs.Values.{Quantised}
use Rattle.ac_sent.specs.Asked.{IsQuantised, IsSizeCode}
use Rattle.ac_sent.specs.Fields.{sent_block, exponents_at, pointer_at}
use Rattle.ac_sent.specs.Packed.{sent_record, IsPacked}
use Rattle.ac_sent.specs.Padding.{skip, skip_bits, skipped, to_skip, aux_bits, left_over}

-- what is sent is a record, whatever the CRC words are
abbrev pub SentIsRecord : Type 0
SentIsRecord =
    (q : Quantised) (frmsizecod crc1 : ℕ) (crcrsv : Bool) (crc2 : ℕ) → IsQuantised q
    → IsSizeCode q.shape.fscod q.shape.words frmsizecod → crc1 < 2 ^ 16 → crc2 < 2 ^ 16
    → IsRecord (sent_record q frmsizecod crc1 crcrsv crc2)

-- and has the bits of the frame's size
abbrev pub SentHasSize : Type 0
SentHasSize =
    (q : Quantised) (frmsizecod crc1 : ℕ) (crcrsv : Bool) (crc2 : ℕ) → IsQuantised q
    → IsSizeCode q.shape.fscod q.shape.words frmsizecod → crc1 < 2 ^ 16 → crc2 < 2 ^ 16
    → length (record_spelled (sent_record q frmsizecod crc1 crcrsv crc2)) ≡ 16 * q.shape.words

-- both room rules hold for each assignment that fits: with their skip fields blocks 0 and 1 end within the first CRC part, and the
-- mantissas of block 5, the aux bits and the last 18 bits have room in the second; and all of what is left over is shared out. The
-- front and the last are parts of the whole, as those of each assignment are
pub record KeepsRooms (words : ℕ) (parts : Parts) : Type 0 where
  pub shared : skipped (to_skip words parts.total parts.last) + aux_bits words parts.total parts.last ≡ left_over words parts.total
  pub front : parts.front + skip_bits (skip (to_skip words parts.total parts.last) 1) ≤ front_room words
  pub end : parts.last + aux_bits words parts.total parts.last + tail_bits ≤ end_room words

abbrev pub PaddingKeepsRooms : Type 0
PaddingKeepsRooms =
    (words : ℕ) (parts : Parts) → 64 ≤ words → words ≤ 1920 → parts.front ≤ parts.total → parts.last ≤ parts.total
    → FitIn words parts → KeepsRooms words parts

-- the reading of a frame is what was handed in: the fields, with the offset, the assignment, the coordinates and the flags among
-- them, and the exponents, pointers and codes of each bin
pub record IsBack (q : Quantised) (f : FrameCodes) : Type 0 where
  pub fields : f.block ≡ listed 6 0 (sent_block q)
  pub exps : (c b k : ℕ) → c < channels q.shape → b < 6 → IsIn (channel_span q.shape c) k
      → cell f.exps c b k ≡ slice_index (exponents_at q c b) k
  pub baps : (c b k : ℕ) → c < channels q.shape → b < 6 → IsIn (channel_span q.shape c) k → cell f.baps c b k ≡ pointer_at q c b k
  pub codes : (c b k : ℕ) → c < channels q.shape → b < 6 → IsIn (channel_span q.shape c) k
      → cell f.codes c b k ≡ cell q.codes c b k

abbrev pub ReadingGivesBack : Type 0
ReadingGivesBack = (q : Quantised) (frame : List ℕ) (f : FrameCodes) → IsQuantised q → IsPacked q frame → IsReading frame f → IsBack q f

-- and the values have one frame: one list of bits
abbrev pub OneFrame : Type 0
OneFrame = (q : Quantised) (frame other : List ℕ) → IsQuantised q → IsPacked q frame → IsPacked q other → bits_of frame ≡ bits_of other
