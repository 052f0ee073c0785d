-- What the loop over the frames of an input leaves, and why it stopped: this project's own rules.
use Rattle.std.specs.Prelude.{◌≡◌, ℕ, ◌+◌, ◌*◌, ◌≤◌, List, length, Some, Result, Ok, Err, pos}
use Rattle.ac_enc.specs.Encoding.{Encoding}
use Rattle.ac_enc.specs.declared.fault.NewFault.{NewFault}
use Rattle.ac_enc.specs.declared.fault.NewFault.TheVariants as new_faults
use Rattle.ac_io.specs.Outside.{Rose}
use Rattle.ac_io.specs.Within.{IsAt}
use Rattle.ac_riff.specs.declared.fault.WavFault.{WavFault}
use Rattle.ac_riff.specs.declared.fault.WavFault.TheVariants as wav
use Rattle.ac_riff.specs.declared.head.WavHead.{WavHead}
use Rattle.ac_wav.specs.Whole.{behind, EndsWithin}
use Rattle.ac_words.specs.declared.meaning.Options.{Options}
use Rattle.ac_encode.specs.declared.frames.Read.{Read}
use Rattle.ac_encode.specs.declared.frames.Stop.{Stop}
use Rattle.ac_encode.specs.declared.frames.Stop.TheVariants as stops
use Rattle.ac_status.specs.declared.status.Status.{Status}
use Rattle.ac_status.specs.declared.status.Status.TheVariants as statuses
use Rattle.ac_encode.specs.declared.work.Work.{Work}
use Rattle.ac_encode.specs.Frames.{Frames, AreLast, AreOwn}
use Rattle.ac_world.specs.Emits.{RoseAt}
use Rattle.ac_encode.specs.Input.{IsRefused, IsTooLong}
use Rattle.ac_world.specs.Limit.{limit}
use Rattle.ac_encode.specs.Encodes.{StopsIn, Breaks}
use Rattle.ac_encode.specs.Sound.{Sound, sound_of}
use Rattle.ac_world.specs.World.{World}

-- the sound ends with what was read: so many frames are full, and the samples behind them stand in the rows
pub record EndsWith (s : Sound) (read : Read) (e : Encoding) (work : Work) : Type 0 where
  pub layout_is : s.layout ≡ e.layout
  pub count : s.count ≡ 1536 * read.frames + read.rest
  pub silent : (c j : ℕ) → s.count ≤ j → s.sample c j ≡ pos 0
  pub last : AreLast s read.frames e.last
  pub rows : AreOwn s read.frames work.rows

-- the data ended within the limit, and the full frames were added
pub record AllRead (o : Options) (bytes : List ℕ) (head : WavHead) (read : Read) (e : Encoding) (work : Work)
    (old new : World) : Type 0 where
  pub wav : EndsWithin bytes head limit
  pub left : new.input.bytes ≡ Some (behind head bytes)
  pub ends : EndsWith (sound_of head bytes) read e work
  pub frames : Frames o (sound_of head bytes) read.frames old.sinks new.sinks

-- why the frames stopped, and what they leave then
abbrev pub StopLeaves : Options → Stop → List ℕ → World → World → Type 0
StopLeaves o (stops.Input (wav.Bad kind place)) bytes old new =
    IsRefused o bytes kind place × IsAt bytes (length bytes) new.input.bytes × StopsIn o bytes old new
StopLeaves o (stops.Input wav.ReadFault) bytes old new = StopsIn o bytes old new
StopLeaves o (stops.Input wav.TooLong) bytes old new = IsTooLong o bytes × IsAt bytes (limit + 1) new.input.bytes × StopsIn o bytes old new
StopLeaves o (stops.Sink broken) bytes old new = Breaks o bytes old new

-- a fault of reading or of writing comes only where the count of faults rose
abbrev pub StopRose : Stop → World → World → Type 0
StopRose (stops.Input (wav.Bad kind place)) old new = Unit {0}
StopRose (stops.Input wav.ReadFault) old new = Rose old.input.faults new.input.faults
StopRose (stops.Input wav.TooLong) old new = Unit {0}
StopRose (stops.Sink broken) old new = RoseAt broken old.sinks new.sinks

-- the status of an input that wasn't read
abbrev pub unread_status : WavFault → Status
unread_status (wav.Bad kind place) = statuses.BadWav kind place
unread_status wav.ReadFault = statuses.ReadFault
unread_status wav.TooLong = statuses.TooLong limit

-- the status of an encode for which there is no encoder
abbrev pub denied_status : NewFault → Status
denied_status (new_faults.RateTooLow part needed room) = statuses.RateTooLow part needed room
denied_status new_faults.NoMemory = statuses.NoMemory

-- the status of an encode whose frames ended so
abbrev pub ended_status : Result (Unit {0}) Stop → Status
ended_status (Ok _) = statuses.Ok
ended_status (Err (stops.Input fault)) = unread_status fault
ended_status (Err (stops.Sink broken)) = statuses.WriteFault
