-- Laws of frames and their records.
use Rattle.std.specs.Prelude.{◌≡◌, ℕ, ◌<◌, ◌^◌, Bool, List, [], ◌∷◌, length, slice_index}
use Rattle.ac_mant.specs.declared.coded.Coded.{Coded}
use Rattle.ac_record.specs.Frames.{FrameCodes}
use Rattle.ac_record.specs.declared.codes.FrameFault.{FrameFault}
use Rattle.ac_record.specs.Records.{BlockRecord, Record, fields_of, StandsFor}
use Rattle.ac_record.specs.Readings.{IsReading}
use Rattle.ac_record.specs.Faults.{IsFault}

-- the mantissas of blocks
abbrev pub mantissas_of : List BlockRecord → List (List Coded)
mantissas_of [] = []
mantissas_of (x ∷ xs) = x.mantissas ∷ mantissas_of xs

-- one list of bits stands for at most one record: the codes that last groups lack are free, and say nothing
pub record IsSame (r s : Record) : Type 0 where
  pub head : r.head ≡ s.head
  pub addbsi : r.addbsi ≡ s.addbsi
  pub fields : fields_of r.blocks ≡ fields_of s.blocks
  pub mantissas : mantissas_of r.blocks ≡ mantissas_of s.blocks

abbrev pub OneRecord : Type 0
OneRecord = (frame : List Bool) (r s : Record) → StandsFor frame r → StandsFor frame s → IsSame r s

-- each is a byte
abbrev pub AreBytes : List ℕ → Type 0
AreBytes bytes = (k : ℕ) → k < length bytes → slice_index bytes k < 2 ^ 8

-- bytes that begin with a frame have no fault
abbrev pub FramesHaveNoFault : Type 0
FramesHaveNoFault =
    (bytes : List ℕ) (f : FrameCodes) (fault : FrameFault) → AreBytes bytes → IsReading bytes f → IsFault bytes fault → ⊥

-- and no bytes have two
abbrev pub OneFault : Type 0
OneFault = (bytes : List ℕ) (d e : FrameFault) → IsFault bytes d → IsFault bytes e → d ≡ e
