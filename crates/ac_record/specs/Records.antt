-- A frame as one list of bits, and the record of fields that it stands for (A/52 5.3).
use Rattle.std.specs.Prelude.{◌≡◌, ℕ, ◌*◌, ◌^◌, ◌<◌, Bool, List, [], ◌∷◌, ◌++◌, length}
use Rattle.ac_base.specs.Sizes.{code_words}
use Rattle.ac_bits.specs.Bits.{bits}
use Rattle.ac_crc.specs.Remainder.{IsRemainder}
use Rattle.ac_mant.specs.declared.coded.Coded.{Coded}
use Rattle.ac_mant.specs.Groups.{Fill, IsFill, AreCoded, pointers, closed, spelled}
use Rattle.ac_rows.specs.Blocks.{Block}
use Rattle.ac_rows.specs.declared.head.Head.{Head}
use Rattle.ac_rows.specs.HeadRows.{whole_head}
use Rattle.ac_rows.specs.BlockRows.{whole_block}
use Rattle.ac_rows.specs.Filled.{filled_of}
use Rattle.ac_record.specs.CrcParts.{front_part, all_part}
use Rattle.ac_record.specs.Held.{pointer_in}
use Rattle.ac_record.specs.Order.{in_order}

-- a block: its fields, its skip bytes, its mantissas in order, and the codes that its last groups lack
pub record BlockRecord : Type 0 where
  pub fields : Block
  pub skipped : List Bool
  pub mantissas : List Coded
  pub missing : Fill

-- a frame: its head with addbsi, its blocks, and what stands behind block 5 (A/52 5.3.4, 5.3.5)
pub record Record : Type 0 where
  pub head : Head
  pub addbsi : List Bool
  pub blocks : List BlockRecord
  pub aux : List Bool
  pub auxdatae : Bool
  pub crcrsv : Bool
  pub crc2 : ℕ

-- the fields of blocks
abbrev pub fields_of : List BlockRecord → List Block
fields_of [] = []
fields_of (x ∷ xs) = x.fields ∷ fields_of xs

-- ---- bits

-- a block's, behind these blocks of its frame (A/52 5.3.3)
abbrev pub block_spelled : Head → List Block → BlockRecord → List Bool
block_spelled h earlier x = (whole_block h earlier).spell (x.fields, x.skipped) ++ spelled x.missing closed x.mantissas

-- those of blocks behind these
unfoldable pub blocks_spelled : Head → List Block → List BlockRecord → List Bool
blocks_spelled h earlier [] = []
blocks_spelled h earlier (x ∷ xs) = block_spelled h earlier x ++ blocks_spelled h (earlier ++ x.fields ∷ []) xs

-- auxdatae, crcrsv and crc2: the last 18 bits of a frame
abbrev pub tail_spelled : Record → List Bool
tail_spelled r = r.auxdatae ∷ r.crcrsv ∷ bits r.crc2 16

-- all bits of a frame
unfoldable pub record_spelled : Record → List Bool
record_spelled r =
    whole_head.spell (r.head, r.addbsi) ++ (blocks_spelled r.head [] r.blocks ++ (r.aux ++ tail_spelled r))

-- ---- which records there are

-- a block that can stand behind these: its mantissas have the pointers of its bit allocation, and each code is one of its pointer
pub record IsBlock (h : Head) (earlier : List Block) (x : BlockRecord) : Type 0 where
  pub fields : (whole_block h earlier).Lawful (x.fields, x.skipped)
  pub pointers : pointers x.mantissas ≡ in_order h (filled_of h earlier x.fields) (pointer_in h earlier x.fields)
  pub coded : AreCoded x.mantissas
  pub missing : IsFill x.missing

-- blocks that can stand behind these, one behind the other
unfoldable pub AreBlocks : Head → List Block → List BlockRecord → Type 0
AreBlocks h earlier [] = Unit {0}
AreBlocks h earlier (x ∷ xs) = IsBlock h earlier x × AreBlocks h (earlier ++ x.fields ∷ []) xs

-- a record but for its CRC words
pub record IsRecord (r : Record) : Type 0 where
  pub head : whole_head.Lawful (r.head, r.addbsi)
  pub six : length r.blocks ≡ 6
  pub blocks : AreBlocks r.head [] r.blocks
  pub word : r.crc2 < 2 ^ 16

-- ---- frames

-- the words of a frame with this head (A/52 Table 5.18)
abbrev pub words_of : Head → ℕ
words_of h = code_words h.fscod h.frmsizecod

-- these bits are a frame and stand for this record
pub record StandsFor (frame : List Bool) (r : Record) : Type 0 where
  pub is_record : IsRecord r
  pub whole : frame ≡ record_spelled r
  pub size : length frame ≡ 16 * words_of r.head
  pub front : IsRemainder (front_part (words_of r.head) frame) 0
  pub all : IsRemainder (all_part frame) 0
