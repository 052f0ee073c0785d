-- The plain frame (A/52 5.3): mono, SNR offset 0, exponents D45 in block 0 and reuse after it, no mantissas. The values that
-- stand in its rows are this project's choice. Here each field is written out as a number and a width, with nothing of the fields
-- of other layouts: what is packed for such values is this frame, by `plain_law`.
use Rattle.std.specs.Prelude.{◌≡◌, ◌≢◌, ◌⊎◌, ℕ, ◌+◌, ◌*◌, ◌^◌, ◌<◌, ◌≤◌, List, [], ◌∷◌, ◌++◌, length}
use Rattle.std.specs.Prelude.{Option, Some, None}
use Rattle.ac_bits.specs.Bits.{bits_of}
use Rattle.ac_crc.specs.Remainder.{IsRemainder}
use Rattle.ac_frame.specs.Rows.{Row, row, spell, group_rows}
use Rattle.ac_base.specs.Sizes.{tail_bits}
use Rattle.ac_base.specs.Profile.{sent_sdcycod, sent_fdcycod, sent_sgaincod, sent_dbpbcod, sent_floorcod, sent_fgaincod}
use Rattle.ac_record.specs.CrcParts.{front_part, all_part}
use Rattle.ac_sent.specs.Padding.{skip, to_skip, aux_bits}

-- syncinfo and bsi behind crc1 (A/52 5.3.1 and 5.4.1, 5.3.2 and 5.4.2)
unfoldable pub head_rows : ℕ → ℕ → List Row
head_rows fscod frmsizecod =
    row fscod 2  -- fscod
    ∷ row frmsizecod 6  -- frmsizecod
    ∷ row 8 5  -- bsid
    ∷ row 0 3  -- bsmod
    ∷ row 1 3  -- acmod: 1/0
    ∷ row 0 1  -- lfeon
    ∷ row 31 5  -- dialnorm
    ∷ row 0 1  -- compre
    ∷ row 0 1  -- langcode
    ∷ row 0 1  -- audprodie
    ∷ row 0 1  -- copyrightb
    ∷ row 1 1  -- origbs
    ∷ row 0 1  -- timecod1e
    ∷ row 0 1  -- timecod2e
    ∷ row 0 1  -- addbsie
    ∷ []

-- block 0 up to the exponent of bin 0 (A/52 5.3.3 and 5.4.3)
unfoldable pub strategy_rows : ℕ → ℕ → List Row
strategy_rows bw first =
    row 0 1  -- blksw
    ∷ row 0 1  -- dithflag
    ∷ row 0 1  -- dynrnge
    ∷ row 1 1  -- cplstre
    ∷ row 0 1  -- cplinu
    ∷ row 3 2  -- chexpstr: D45
    ∷ row bw 6  -- chbwcod
    ∷ row first 4  -- exps: that of bin 0
    ∷ []

-- block 0 behind the groups of exponents (A/52 5.3.3 and 5.4.3.28 to 5.4.3.58)
unfoldable pub allocation_rows : List Row
allocation_rows =
    row 0 2  -- gainrng
    ∷ row 1 1  -- baie
    ∷ row sent_sdcycod 2  -- sdcycod
    ∷ row sent_fdcycod 2  -- fdcycod
    ∷ row sent_sgaincod 2  -- sgaincod
    ∷ row sent_dbpbcod 2  -- dbpbcod
    ∷ row sent_floorcod 3  -- floorcod
    ∷ row 1 1  -- snroffste
    ∷ row 0 6  -- csnroffst
    ∷ row 0 4  -- fsnroffst
    ∷ row sent_fgaincod 3  -- fgaincod
    ∷ row 0 1  -- deltbaie
    ∷ row 0 1  -- skiple
    ∷ []

-- block 0 (A/52 5.3.3)
abbrev pub first_block_rows : ℕ → ℕ → List ℕ → List Row
first_block_rows bw first groups = strategy_rows bw first ++ (group_rows groups ++ allocation_rows)

-- a later block up to deltbaie: all is as in the block before (A/52 5.3.3 and 5.4.3)
unfoldable pub reuse_rows : List Row
reuse_rows =
    row 0 1  -- blksw
    ∷ row 0 1  -- dithflag
    ∷ row 0 1  -- dynrnge
    ∷ row 0 1  -- cplstre
    ∷ row 0 2  -- chexpstr: reuse
    ∷ row 0 1  -- baie
    ∷ row 0 1  -- snroffste
    ∷ row 0 1  -- deltbaie
    ∷ []

-- skiple, and where it is 1 skipl and so many bytes of 0 (A/52 5.4.3.58 to 5.4.3.60)
unfoldable pub skip_rows : Option ℕ → List Row
skip_rows None = row 0 1 ∷ []
skip_rows (Some skipl) = row 1 1 ∷ row skipl 9 ∷ row 0 (8 * skipl) ∷ []

-- a later block (A/52 5.3.3)
abbrev pub later_block_rows : Option ℕ → List Row
later_block_rows skipl = reuse_rows ++ skip_rows skipl

-- blocks 1 to 5, whose skip fields take x bits (A/52 5.3.3)
unfoldable pub later_rows : ℕ → List Row
later_rows x =
    later_block_rows (skip x 1)
    ++ (later_block_rows (skip x 2)
    ++ (later_block_rows (skip x 3)
    ++ (later_block_rows (skip x 4)
    ++ later_block_rows (skip x 5))))

-- auxdata, and errorcheck up to crc2 (A/52 5.3.4 and 5.4.4, 5.3.5 and 5.4.5)
unfoldable pub tail_rows : ℕ → ℕ → List Row
tail_rows aux crcrsv =
    row 0 aux  -- auxbits
    ∷ row 0 1  -- auxdatae
    ∷ row crcrsv 1  -- crcrsv
    ∷ []

-- the bits of all fields without padding: head, block 0, its exponents with chbwcod and
-- gainrng, five later blocks, and auxdatae, crcrsv and crc2 (the widths of A/52 5.3)
abbrev pub total_bits : ℕ → ℕ
total_bits groups = 65 + 35 + (12 + 7 * groups) + 5 * 10 + tail_bits

-- all rows between crc1 and crc2 (A/52 5.3)
unfoldable pub body_rows : ℕ → ℕ → ℕ → ℕ → ℕ → List ℕ → ℕ → List Row
body_rows fscod frmsizecod words bw first groups crcrsv =
    let total = total_bits (length groups) in
    head_rows fscod frmsizecod
    ++ (first_block_rows bw first groups
    ++ (later_rows (to_skip words total 0)
    ++ tail_rows (aux_bits words total 0) crcrsv))

-- all rows: syncword and crc1 (A/52 5.3.1, 5.4.1.1, 5.4.1.2), those between, and crc2 (5.3.5, 5.4.5.2)
unfoldable pub plain_rows : ℕ → ℕ → ℕ → ℕ → ℕ → List ℕ → ℕ → ℕ → ℕ → List Row
plain_rows fscod frmsizecod words bw first groups crc1 crcrsv crc2 =
    row 0x0B77 16  -- syncword
    ∷ row crc1 16  -- crc1
    ∷ (body_rows fscod frmsizecod words bw first groups crcrsv
    ++ row crc2 16 ∷ [])

-- a size that a frame may have (A/52 Table 5.18), and no more groups than the widest channel has (7.1.3)
pub record IsSized (words : ℕ) (groups : List ℕ) : Type 0 where
  pub least : 64 ≤ words
  pub most : words ≤ 1920
  pub few : length groups ≤ 21

-- These bytes are the plain frame (A/52 5.3, 7.10.1). crcrsv is 0, or 1 where crc2 would else be the syncword (5.4.5.1).
pub record IsPlain (fscod frmsizecod words bw first : ℕ) (groups frame : List ℕ) : Type 0 where
  pub crc1 : ℕ
  pub crcrsv : ℕ
  pub crc2 : ℕ
  pub fit : (crc1 < 2 ^ 16) × (crc2 < 2 ^ 16)
  pub whole : bits_of frame ≡ spell (plain_rows fscod frmsizecod words bw first groups crc1 crcrsv crc2)
  pub front : IsRemainder (front_part words (bits_of frame)) 0
  pub all : IsRemainder (all_part (bits_of frame)) 0
  pub reserved : ((crcrsv ≡ 0) × (crc2 ≢ 0x0B77))
      ⊎ ((crcrsv ≡ 1) × IsRemainder (all_part (spell (plain_rows fscod frmsizecod words bw first groups crc1 0 0x0B77))) 0)
