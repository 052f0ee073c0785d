-- What contracts see of a reading.
use Rattle.std.specs.Prelude.{ℕ, List}
use Rattle.ac_rows.specs.Blocks.{Block}
use Rattle.ac_record.specs.declared.codes.FrameCodes as codes

abbrev pub FrameCodes : Type 0
FrameCodes = codes.FrameCodes Block (List (List ℕ)) (List (List ℕ))
