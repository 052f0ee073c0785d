-- Parts of what is looked at in a frame.
use Rattle.std.specs.Prelude.{◌≡◌, ◌≢◌, ℕ, ◌*◌, ◌≤◌, Bool, List, ◌++◌}
use Rattle.ac_bits.specs.Bits.{bits_of}
use Rattle.ac_crc.specs.Remainder.{IsRemainder}
use Rattle.ac_rows.specs.HeadRows.{whole_head}
use Rattle.ac_record.specs.Frames.{FrameCodes}
use Rattle.ac_record.specs.declared.codes.FrameFault.{FrameFault}
use Rattle.ac_record.specs.declared.codes.FrameFault.TheVariants.{Short, BadCrc1, BadCrc2, Changed, Field}
use Rattle.ac_record.specs.CrcParts.{front_part, all_part}
use Rattle.ac_record.specs.Faults.{IsThere, FrontIs, AllIs, words_at}
use Rattle.ac_reading.specs.Begun.{IsBegun}

-- a reading, for clauses beside the code's own FrameCodes
abbrev pub Reading : Type 0
Reading = FrameCodes

-- a frame of n bytes is there
pub record IsSized (bytes : List ℕ) (n : ℕ) : Type 0 where
  pub there : IsThere bytes
  pub size : n ≡ 2 * words_at bytes
  pub least : 128 ≤ n
  pub most : n ≤ 3840

-- its CRC words are whole
pub record IsWhole (frame : List ℕ) (words : ℕ) : Type 0 where
  pub front : IsRemainder (front_part words (bits_of frame)) 0
  pub all : IsRemainder (all_part (bits_of frame)) 0

-- one isn't, and this is the first
abbrev pub IsTorn : List ℕ → ℕ → FrameFault → Type 0
IsTorn frame words (Short have) = ⊥
IsTorn frame words (BadCrc1 r) = IsRemainder (front_part words (bits_of frame)) r × (r ≢ 0)
IsTorn frame words (BadCrc2 r) =
    IsRemainder (front_part words (bits_of frame)) 0 × IsRemainder (all_part (bits_of frame)) r × (r ≢ 0)
IsTorn frame words (Changed row) = ⊥
IsTorn frame words (Field e) = ⊥

pub record IsFramed (bytes : List ℕ) (n : ℕ) : Type 0 where
  pub sized : IsSized bytes n
  pub front : FrontIs bytes 0
  pub all : AllIs bytes 0

-- these bits begin with a head and six blocks
pub record AreFields (room : List Bool) (f : FrameCodes) : Type 0 where
  pub addbsi : List Bool
  pub blocks_from : List Bool
  pub rest : List Bool
  pub lawful : whole_head.Lawful (f.head, addbsi)
  pub whole : room ≡ whole_head.spell (f.head, addbsi) ++ blocks_from
  pub begun : IsBegun f.head 6 f blocks_from rest
