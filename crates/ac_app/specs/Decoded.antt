-- What decode leaves, by its status, and why each status came: this project's own rules.
use Rattle.std.specs.Prelude.{◌≡◌, ◌≢◌, ℕ, List, [], ◌++◌, Some, Result, Ok, Err}
use Rattle.ac_io.specs.Outside.{Adds}
use Rattle.ac_io.specs.declared.within.Unread.TheVariants as unread
use Rattle.ac_reading.specs.Framed.{Reading}
use Rattle.ac_record.specs.declared.codes.FrameFault.{FrameFault}
use Rattle.ac_decode.specs.declared.halt.Halt.{Halt}
use Rattle.ac_decode.specs.declared.halt.Halt.TheVariants.{Stream, Input, Sink}
use Rattle.ac_decode.specs.Leaves.{Decoded, HaltLeaves}
use Rattle.ac_decode.specs.Lines.{lines_of}
use Rattle.ac_decode.specs.Sound.{IsWav}
use Rattle.ac_decode.specs.Stream.{IsEnd, IsBadStream, IsTooLong}
use Rattle.ac_world.specs.Limit.{limit}
use Rattle.ac_status.specs.declared.status.Status.{Status}
use Rattle.ac_status.specs.declared.status.Status.TheVariants as statuses
use Rattle.ac_status.specs.Lines.{status_line}
use Rattle.ac_world.specs.World.{World}
use Rattle.ac_world.specs.declared.writing.Broken.{Broken}

-- the status of a decode that ended so
abbrev pub ended_status : Result (Unit {0}) Halt → Status
ended_status (Ok _) = statuses.Ok
ended_status (Err (Stream frame fault)) = statuses.BadStream frame fault
ended_status (Err (Input unread.Failed)) = statuses.ReadFault
ended_status (Err (Input unread.TooLong)) = statuses.TooLong limit
ended_status (Err (Sink broken)) = statuses.WriteFault

-- what it leaves, where the source told these bytes; without memory nothing was taken and nothing written
abbrev pub DecodeLeaves : Status → List ℕ → World → World → Type 0
DecodeLeaves statuses.Ok bytes old new = Decoded bytes old new
DecodeLeaves statuses.Usage bytes old new = ⊥
DecodeLeaves (statuses.BadWav kind place) bytes old new = ⊥
DecodeLeaves (statuses.RateTooLow part needed room) bytes old new = ⊥
DecodeLeaves (statuses.BadStream frame fault) bytes old new = HaltLeaves (Stream frame fault) bytes old new
DecodeLeaves statuses.ReadFault bytes old new = HaltLeaves (Input unread.Failed) bytes old new
DecodeLeaves statuses.WriteFault bytes old new = (broken : Broken) × HaltLeaves (Sink broken) bytes old new
DecodeLeaves statuses.NoMemory bytes old new = new ≡ old
DecodeLeaves (statuses.TooLong most) bytes old new = (most ≡ limit) × HaltLeaves (Input unread.TooLong) bytes old new

-- why it has this status: its input is frames of one kind within the limit, a frame of it is refused, or it goes on where the byte
-- behind the limit is needed
abbrev pub DecodeHasCause : Status → List ℕ → Type 0
DecodeHasCause statuses.Ok bytes = (frames : List Reading) × IsEnd bytes frames
DecodeHasCause statuses.Usage bytes = ⊥
DecodeHasCause (statuses.BadWav kind place) bytes = ⊥
DecodeHasCause (statuses.RateTooLow part needed room) bytes = ⊥
DecodeHasCause (statuses.BadStream frame fault) bytes = IsBadStream bytes frame fault
DecodeHasCause statuses.ReadFault bytes = Unit {0}
DecodeHasCause statuses.WriteFault bytes = Unit {0}
DecodeHasCause statuses.NoMemory bytes = Unit {0}
DecodeHasCause (statuses.TooLong most) bytes = (most ≡ limit) × IsTooLong bytes

-- unless something failed or memory was wanting, the status is this
abbrev pub ComesUnless : Status → Status → Type 0
ComesUnless wanted status =
    (status ≢ statuses.ReadFault) → (status ≢ statuses.WriteFault) → (status ≢ statuses.NoMemory) → status ≡ wanted

-- the status is the one that the bytes ask for, unless something failed or memory was wanting
pub record AnswersStream (bytes : List ℕ) (status : Status) : Type 0 where
  pub decoded : (frames : List Reading) → IsEnd bytes frames → ComesUnless statuses.Ok status
  pub bad : (frame : ℕ) (fault : FrameFault) → IsBadStream bytes frame fault → ComesUnless (statuses.BadStream frame fault) status
  pub long : IsTooLong bytes → ComesUnless (statuses.TooLong limit) status

-- all is done: the input is frames, which the source lost, and their sound, their lines and the status line were added
pub record IsDecoded (bytes : List ℕ) (old new : World) : Type 0 where
  pub frames : List Reading
  pub is_end : IsEnd bytes frames
  pub left : new.input.bytes ≡ Some []
  pub wav : List ℕ
  pub is_wav : IsWav frames wav
  pub output : Adds old.sinks.output.bytes new.sinks.output.bytes wav
  pub report : Adds old.sinks.report.bytes new.sinks.report.bytes (lines_of frames ++ status_line statuses.Ok)
