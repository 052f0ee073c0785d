-- What decode leaves, by its answer: this project's own rules.
use Rattle.std.specs.Prelude.{◌≡◌, ◌⊎◌, ℕ, ◌+◌, ◌≤◌, min, List, [], ◌∷◌, ◌++◌, length, take, Option, Some, None, Result, Ok, Err}
use Rattle.ac_io.specs.Outside.{Rose, Adds}
use Rattle.ac_io.specs.Within.{IsAt}
use Rattle.ac_io.specs.declared.within.Unread.TheVariants.{Failed, TooLong}
use Rattle.ac_world.specs.Emits.{Emits, RoseAt}
use Rattle.ac_world.specs.World.{Sinks, World}
use Rattle.ac_world.specs.declared.writing.Broken.{Broken}
use Rattle.ac_record.specs.declared.codes.FrameFault.{FrameFault}
use Rattle.ac_record.specs.Readings.{IsReading}
use Rattle.ac_reading.specs.Framed.{Reading}
use Rattle.ac_decode.specs.declared.halt.Halt.{Halt}
use Rattle.ac_decode.specs.declared.halt.Halt.TheVariants as halts
use Rattle.ac_decode.specs.Stream.{size_of, size_of_all, looked_at, Accepted, IsEnd, IsBadStream, IsTooLong}
use Rattle.ac_world.specs.Limit.{limit}
use Rattle.ac_decode.specs.Sound.{IsPiece, IsWav}
use Rattle.ac_decode.specs.Lines.{frame_line, lines_of}

-- ---- the sinks

-- the WAV of these frames and their lines were added
pub record Added (gs : List Reading) (old new : Sinks) : Type 0 where
  pub wav : List ℕ
  pub is_wav : IsWav gs wav
  pub output : Adds old.output.bytes new.output.bytes wav
  pub report : Adds old.report.bytes new.report.bytes (lines_of gs)

-- frame g was, behind these: what it adds to the WAV, and its line, or fronts of them
pub record FrameLeaves (gs : List Reading) (g : Reading) (result : Result (Unit {0}) Broken) (old new : Sinks) : Type 0 where
  pub piece : List ℕ
  pub is_piece : IsPiece (gs ++ g ∷ []) (length gs) g piece
  pub emits : Emits piece (frame_line (length gs) (size_of g)) result old new

-- ---- the answers

-- all was done: the input is frames, the source has no byte more, and all frames were added
pub record Decoded (bytes : List ℕ) (old new : World) : Type 0 where
  pub frames : List Reading
  pub is_end : IsEnd bytes frames
  pub left : new.input.bytes ≡ Some []
  pub added : Added frames old.sinks new.sinks

-- a frame was refused: those before it were added, and the source stands behind the bytes that were looked at
pub record Refuses (bytes : List ℕ) (i : ℕ) (fault : FrameFault) (old new : World) : Type 0 where
  pub bad : IsBadStream bytes i fault
  pub left : IsAt bytes (size_of_all bad.before + looked_at bad.rest) new.input.bytes
  pub added : Added bad.before old.sinks new.sinks

-- these are the whole frames with which the bytes begin, all of one kind
pub record AreWhole (bytes : List ℕ) (gs : List Reading) : Type 0 where
  pub rest : List ℕ
  pub accepted : Accepted bytes gs rest
  pub no_more : (g : Reading) → IsReading rest g → ⊥

-- where the source still tells what is left, they are those of the bytes that were taken; byte number limit + 1 isn't counted
abbrev pub FramesTaken : List ℕ → List Reading → Option (List ℕ) → Type 0
FramesTaken bytes gs None = Unit {0}
FramesTaken bytes gs (Some left) = (k : ℕ) × IsAt bytes k (Some left) × AreWhole (take (min k limit) bytes) gs

-- the source gave no more: exactly the whole frames of the bytes taken were added
pub record StopsIn (bytes : List ℕ) (old new : World) : Type 0 where
  pub frames : List Reading
  pub rest : List ℕ
  pub accepted : Accepted bytes frames rest
  pub taken : FramesTaken bytes frames new.input.bytes
  pub added : Added frames old.sinks new.sinks

-- a write failed: whole frames were added, and a front of what the next adds, or that and a front of its line. No byte behind that
-- frame was taken
pub record Breaks (bytes : List ℕ) (broken : Broken) (old new : World) : Type 0 where
  pub before : List Reading
  pub frame : Reading
  pub rest : List ℕ
  pub accepted : Accepted bytes (before ++ frame ∷ []) rest
  pub within : size_of_all (before ++ frame ∷ []) ≤ limit
  pub left : new.input.bytes ≡ Some rest
  pub between : Sinks
  pub added : Added before old.sinks between
  pub leaves : FrameLeaves before frame (Err broken) between new.sinks

-- why decode stopped, and what it leaves then
abbrev pub HaltLeaves : Halt → List ℕ → World → World → Type 0
HaltLeaves (halts.Stream i fault) bytes old new = Refuses bytes i fault old new
HaltLeaves (halts.Input Failed) bytes old new = StopsIn bytes old new
HaltLeaves (halts.Input TooLong) bytes old new = IsTooLong bytes × IsAt bytes (limit + 1) new.input.bytes × StopsIn bytes old new
HaltLeaves (halts.Sink broken) bytes old new = Breaks bytes broken old new

-- a fault of reading or of writing comes only where a count of faults rose
abbrev pub HaltRose : Halt → World → World → Type 0
HaltRose (halts.Stream i fault) old new = Unit {0}
HaltRose (halts.Input Failed) old new = Rose old.input.faults new.input.faults
HaltRose (halts.Input TooLong) old new = Unit {0}
HaltRose (halts.Sink broken) old new = RoseAt broken old.sinks new.sinks

-- a read or a write failed
abbrev pub IsBroken : Halt → Type 0
IsBroken (halts.Stream i fault) = ⊥
IsBroken (halts.Input Failed) = Unit {0}
IsBroken (halts.Input TooLong) = ⊥
IsBroken (halts.Sink broken) = Unit {0}

abbrev pub IsBrokenEnd : Result (Unit {0}) Halt → Type 0
IsBrokenEnd (Ok _) = ⊥
IsBrokenEnd (Err halt) = IsBroken halt

-- this is the answer, or a read or a write failed
abbrev pub AnswersUnlessBroken : Result (Unit {0}) Halt → Result (Unit {0}) Halt → Type 0
AnswersUnlessBroken answer result = (result ≡ answer) ⊎ IsBrokenEnd result
