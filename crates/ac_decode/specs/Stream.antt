-- A stream of sync frames, one behind the other (A/52 5.1), and what decode makes of it. How far it reads, and that all frames are
-- of one kind, is this project's own.
use Rattle.std.specs.Prelude.{◌≡◌, ℕ, ◌+◌, ◌*◌, ◌<◌, ◌≤◌, min, nat_lt, if◌then◌else◌, List, [], ◌∷◌, length, drop, Option, Some, None}
use Rattle.std.specs.List.{AllByRecursion}
use Rattle.ac_codec.specs.declared.refused.Refused.{Refused}
use Rattle.ac_record.specs.declared.codes.FrameFault.{FrameFault}
use Rattle.ac_record.specs.Faults.{size_refusal, words_at}
use Rattle.ac_record.specs.Readings.{IsReading}
use Rattle.ac_record.specs.Records.{words_of}
use Rattle.ac_reading.specs.Framed.{Reading}
use Rattle.ac_dec.specs.declared.kind.Kind.{Kind}
use Rattle.ac_dec.specs.Decoding.{kind_of, IsRefusal}
use Rattle.ac_world.specs.Limit.{limit}

-- ---- frames

-- the bytes of a frame (A/52 5.4.1.4)
abbrev pub size_of : Reading → ℕ
size_of g = 2 * words_of g.head

-- the bytes are these frames, one behind the other, and then the rest
unfoldable pub AreFrames : List ℕ → List Reading → List ℕ → Type 0
AreFrames bytes [] rest = bytes ≡ rest
AreFrames bytes (g ∷ gs) rest = IsReading bytes g × AreFrames (drop (size_of g) bytes) gs rest

-- the bytes of these frames
abbrev pub size_of_all : List Reading → ℕ
size_of_all [] = 0
size_of_all (g ∷ gs) = size_of g + size_of_all gs

-- they all have the sampling rate and the channels of the first
abbrev pub AreAlike : List Reading → Type 0
AreAlike [] = Unit {0}
AreAlike (g ∷ gs) = AllByRecursion (λ h. kind_of h ≡ kind_of g) gs

-- those of the first, where there is one
abbrev pub kind_behind : List Reading → Option Kind
kind_behind [] = None
kind_behind (g ∷ gs) = Some (kind_of g)

-- the bytes begin with these frames, all of one kind
pub record Accepted (bytes : List ℕ) (gs : List Reading) (rest : List ℕ) : Type 0 where
  pub frames : AreFrames bytes gs rest
  pub alike : AreAlike gs

-- ---- what is looked at of the next frame

-- six bytes, where they say no size, and else the size that they say
abbrev pub needed_by : Option Refused → ℕ → ℕ
needed_by None size = size
needed_by (Some e) size = 6

-- the bytes that are needed of a frame that begins so: six, and what these say (A/52 5.3.1)
unfoldable pub needed : List ℕ → ℕ
needed rest = if nat_lt (length rest) 6 then 6 else needed_by (size_refusal rest) (2 * words_at rest)

-- those of them that are there
abbrev pub looked_at : List ℕ → ℕ
looked_at rest = min (needed rest) (length rest)

-- ---- the three ends

-- the bytes are frames of one kind, and they lie within the limit
pub record IsEnd (bytes : List ℕ) (gs : List Reading) : Type 0 where
  pub accepted : Accepted bytes gs []
  pub within : length bytes ≤ limit

-- behind these frames of one kind there are bytes that are refused, with this fault: they begin with no frame, or with one of
-- another kind
abbrev pub IsRefusedBehind : List Reading → List ℕ → FrameFault → Type 0
IsRefusedBehind gs rest fault = IsRefusal (record { kind = kind_behind gs; delays = [] }) rest fault

-- frame number i is the first that is refused, and the bytes that show it lie within the limit
pub record IsBadStream (bytes : List ℕ) (i : ℕ) (fault : FrameFault) : Type 0 where
  pub before : List Reading
  pub rest : List ℕ
  pub accepted : Accepted bytes before rest
  pub number : i ≡ length before
  pub some : 0 < length rest
  pub refused : IsRefusedBehind before rest fault
  pub within : size_of_all before + looked_at rest ≤ limit

-- byte number limit + 1 is there, and it is needed: frames of one kind lie within the limit, and the next reaches past it by its
-- first six bytes or by the size that these say
pub record IsTooLong (bytes : List ℕ) : Type 0 where
  pub before : List Reading
  pub rest : List ℕ
  pub accepted : Accepted bytes before rest
  pub within : size_of_all before ≤ limit
  pub past : limit < size_of_all before + needed rest
  pub there : limit < length bytes
