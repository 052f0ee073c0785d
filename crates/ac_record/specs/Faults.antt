-- Why bytes are no frame: the first fault, in the order in which a reader looks at them (the order is this project's own).
use Rattle.std.specs.Prelude.{◌≡◌, ◌≢◌, ◌⊎◌, ℕ, zero, suc, ◌+◌, ◌-◌, ◌*◌, ◌/◌, ◌%◌, ◌<◌, ◌≤◌, Bool, List, [], ◌∷◌, ◌++◌, length, take, slice_index, Option, Some, None}
use Rattle.ac_base.specs.Sizes.{code_words, tail_bits}
use Rattle.ac_bits.specs.Bits.{bits_of}
use Rattle.ac_crc.specs.Remainder.{IsRemainder}
use Rattle.ac_codec.specs.declared.refused.Refused.{Refused}
use Rattle.ac_codec.specs.declared.refused.Refused.TheVariants as refused
use Rattle.ac_codec.specs.declared.refused.Row.TheVariants.{Fscod, Frmsizecod}
use Rattle.ac_codec.specs.Codec.{below}
use Rattle.ac_mant.specs.declared.coded.MantFault.{MantFault}
use Rattle.ac_mant.specs.declared.coded.MantFault.TheVariants as mant
use Rattle.ac_mant.specs.Groups.{closed, Refuses}
use Rattle.ac_rows.specs.Blocks.{Block}
use Rattle.ac_rows.specs.declared.head.Head.{Head}
use Rattle.ac_rows.specs.HeadRows.{whole_head, sync_only, eight_only}
use Rattle.ac_rows.specs.BlockRows.{whole_block}
use Rattle.ac_rows.specs.Filled.{filled_of}
use Rattle.ac_record.specs.declared.codes.FrameFault.{FrameFault}
use Rattle.ac_record.specs.declared.codes.FrameFault.TheVariants.{Short, BadCrc1, BadCrc2, Changed, Field}
use Rattle.ac_record.specs.Held.{pointer_in}
use Rattle.ac_record.specs.Order.{in_order}
use Rattle.ac_record.specs.Records.{BlockRecord, block_spelled, IsBlock}
use Rattle.ac_record.specs.CrcParts.{front_part, all_part}

-- ---- the size, from the first six bytes (A/52 5.3.1, 5.4.1, 5.4.2.1)

abbrev pub sync_at : List ℕ → ℕ
sync_at bytes = 256 * slice_index bytes 0 + slice_index bytes 1

abbrev pub rate_at : List ℕ → ℕ
rate_at bytes = slice_index bytes 4 / 64

abbrev pub code_at : List ℕ → ℕ
code_at bytes = slice_index bytes 4 % 64

abbrev pub version_at : List ℕ → ℕ
version_at bytes = slice_index bytes 5 / 8

-- the first, or else the second
abbrev pub first_of : Option Refused → Option Refused → Option Refused
first_of None e = e
first_of (Some d) e = Some d

-- why they say no size
abbrev pub size_refusal : List ℕ → Option Refused
size_refusal bytes =
    first_of (sync_only (sync_at bytes)) (first_of (below 3 Fscod (rate_at bytes)) (first_of (below 38 Frmsizecod (code_at bytes))
    (eight_only (version_at bytes))))

-- the words that they say
abbrev pub words_at : List ℕ → ℕ
words_at bytes = code_words (rate_at bytes) (code_at bytes)

-- ---- fields and mantissas

-- a refusal of mantissas as one of fields
abbrev pub refused_as : MantFault → Refused
refused_as mant.OutOfBits = refused.OutOfBits
refused_as (mant.BadGroup place) = refused.BadGroup place

-- these bits, behind these blocks, don't begin with a block: a field is refused, or a mantissa behind lawful fields
abbrev pub BlockRefuses : Head → List Block → List Bool → Refused → Type 0
BlockRefuses h earlier l e =
    ((at : List Bool) × (whole_block h earlier).Refuses l e at)
    ⊎ ((b : Block) × (skipped : List Bool) × (rest : List Bool) × (fault : MantFault) × (whole_block h earlier).Lawful (b, skipped)
    × (l ≡ (whole_block h earlier).spell (b, skipped) ++ rest)
    × Refuses closed 0 (in_order h (filled_of h earlier b) (pointer_in h earlier b)) rest fault × (e ≡ refused_as fault))

-- they don't begin with n blocks: the first that is refused
unfoldable pub BlocksRefuse : Head → List Block → ℕ → List Bool → Refused → Type 0
BlocksRefuse h earlier zero l e = ⊥
BlocksRefuse h earlier (suc n) l e =
    BlockRefuses h earlier l e
    ⊎ ((x : BlockRecord) × (rest : List Bool) × IsBlock h earlier x × (l ≡ block_spelled h earlier x ++ rest)
    × BlocksRefuse h (earlier ++ x.fields ∷ []) n rest e)

-- they don't begin with a head and six blocks
abbrev pub FieldsRefuse : List Bool → Refused → Type 0
FieldsRefuse l e =
    ((at : List Bool) × whole_head.Refuses l e at)
    ⊎ ((h : Head) × (addbsi : List Bool) × (rest : List Bool) × whole_head.Lawful (h, addbsi)
    × (l ≡ whole_head.spell (h, addbsi) ++ rest) × BlocksRefuse h [] 6 rest e)

-- ---- the first fault

-- the bits of the frame that the first six bytes say
abbrev pub frame_at : List ℕ → List Bool
frame_at bytes = bits_of (take (2 * words_at bytes) bytes)

-- the bits that fields and mantissas may have: all but auxdatae, crcrsv and crc2
abbrev pub room_at : List ℕ → List Bool
room_at bytes = take (16 * words_at bytes - tail_bits) (frame_at bytes)

-- six bytes are there, they say a size, and so many bytes are there
pub record IsThere (bytes : List ℕ) : Type 0 where
  pub head : 6 ≤ length bytes
  pub size : size_refusal bytes ≡ None
  pub whole : 2 * words_at bytes ≤ length bytes

abbrev pub FrontIs : List ℕ → ℕ → Type 0
FrontIs bytes r = IsRemainder (front_part (words_at bytes) (frame_at bytes)) r

abbrev pub AllIs : List ℕ → ℕ → Type 0
AllIs bytes r = IsRemainder (all_part (frame_at bytes)) r

-- bytes are missing: of the first six, or of the size that these say
abbrev pub IsShort : List ℕ → Type 0
IsShort bytes =
    (length bytes < 6) ⊎ ((6 ≤ length bytes) × (size_refusal bytes ≡ None) × (length bytes < 2 * words_at bytes))

-- the field that is refused: by the size, or, behind whole CRC words, the first in the order of the bits
abbrev pub FieldIs : List ℕ → Refused → Type 0
FieldIs bytes e =
    ((6 ≤ length bytes) × (size_refusal bytes ≡ Some e))
    ⊎ (IsThere bytes × FrontIs bytes 0 × AllIs bytes 0 × FieldsRefuse (room_at bytes) e)

-- the first fault
abbrev pub IsFault : List ℕ → FrameFault → Type 0
IsFault bytes (Short have) = (have ≡ length bytes) × IsShort bytes
IsFault bytes (BadCrc1 r) = IsThere bytes × FrontIs bytes r × (r ≢ 0)
IsFault bytes (BadCrc2 r) = IsThere bytes × FrontIs bytes 0 × AllIs bytes r × (r ≢ 0)
IsFault bytes (Changed row) = ⊥
IsFault bytes (Field e) = FieldIs bytes e
