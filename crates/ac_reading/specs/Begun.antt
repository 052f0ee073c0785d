-- A frame of which some blocks are read.
use Rattle.std.specs.Prelude.{◌≡◌, ℕ, ◌≤◌, ◌+◌, Bool, List, [], ◌∷◌, ◌++◌, length, take}
use Rattle.ac_rows.specs.declared.head.Head.{Head}
use Rattle.ac_record.specs.Frames.{FrameCodes}
use Rattle.ac_record.specs.Records.{BlockRecord, fields_of, block_spelled, blocks_spelled, IsBlock, AreBlocks}
use Rattle.ac_record.specs.Readings.{IsBlockReading, AreBlockReadings}
use Rattle.ac_reading.specs.Cells.{IsBlank, StaysBut}

-- block b of a reading is blank
pub record IsOpen (b : ℕ) (f : FrameCodes) : Type 0 where
  pub exps : IsBlank b f.exps
  pub baps : IsBlank b f.baps
  pub codes : IsBlank b f.codes

-- the others stay
pub record Keeps (b : ℕ) (f g : FrameCodes) : Type 0 where
  pub exps : StaysBut b f.exps g.exps
  pub baps : StaysBut b f.baps g.baps
  pub codes : StaysBut b f.codes g.codes

-- block b, behind those that stand in f, was read from the front of these bits into g
pub record IsRead (h : Head) (b : ℕ) (f g : FrameCodes) (old new : List Bool) : Type 0 where
  pub block : BlockRecord
  pub lawful : IsBlock h (take b f.block) block
  pub whole : old ≡ block_spelled h (take b f.block) block ++ new
  pub reading : IsBlockReading h (take b f.block) b block g
  pub fields : take (b + 1) g.block ≡ take b f.block ++ block.fields ∷ []
  pub long : length g.block ≡ length f.block

-- the first b blocks were read, and the others are blank
pub record IsBegun (h : Head) (b : ℕ) (f : FrameCodes) (room rest : List Bool) : Type 0 where
  pub blocks : List BlockRecord
  pub many : length blocks ≡ b
  pub lawful : AreBlocks h [] blocks
  pub whole : room ≡ blocks_spelled h [] blocks ++ rest
  pub fields : take b f.block ≡ fields_of blocks
  pub long : length f.block ≡ 6
  pub reading : AreBlockReadings h [] 0 blocks f
  pub blank : (e : ℕ) → b ≤ e → IsOpen e f
