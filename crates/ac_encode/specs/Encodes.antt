-- What encode leaves, by its answer, and why each answer came: this project's own rules.
use Rattle.std.specs.Prelude.{◌≡◌, ◌⊎◌, ℕ, ◌+◌, ◌<◌, List, length, drop, Some}
use Rattle.ac_io.specs.Within.{IsAt, TakesAtMost}
use Rattle.ac_riff.specs.declared.head.WavHead.{WavHead}
use Rattle.ac_riff.specs.Form.{IsHead}
use Rattle.ac_wav.specs.Samples.{FramesTaken}
use Rattle.ac_wav.specs.Whole.{behind}
use Rattle.ac_words.specs.declared.meaning.Options.{Options}
use Rattle.ac_world.specs.declared.writing.Broken.{Broken}
use Rattle.ac_status.specs.declared.status.Status.{Status}
use Rattle.ac_status.specs.declared.status.Status.TheVariants.{Ok, Usage, BadWav, RateTooLow, BadStream, ReadFault, WriteFault, NoMemory, TooLong}
use Rattle.ac_encode.specs.Frames.{Frames, Added, AddedFront}
use Rattle.ac_world.specs.Emits.{RoseAt}
use Rattle.ac_encode.specs.Input.{IsBegun, IsInput, IsRefused, IsTooLong, IsRateTooLow, place_behind}
use Rattle.ac_world.specs.Limit.{limit}
use Rattle.ac_encode.specs.Sound.{sound_of, frames_of}
use Rattle.ac_world.specs.World.{World}

-- all was done: the source lost the bytes up to the end of the data, and all frames were added
pub record Encodes (o : Options) (bytes : List ℕ) (old new : World) : Type 0 where
  pub head : WavHead
  pub input : IsInput o bytes head
  pub left : new.input.bytes ≡ Some (behind head bytes)
  pub frames : Frames o (sound_of head bytes) (frames_of (sound_of head bytes)) old.sinks new.sinks

-- it stopped before the data: no byte of them was taken, as far as the source tells, and nothing was written
pub record StopsBefore (bytes : List ℕ) (old new : World) : Type 0 where
  pub untaken : (head : WavHead) → IsHead bytes head → TakesAtMost bytes head.taken new.input.bytes
  pub unwritten : new.sinks ≡ old.sinks

-- it stopped right behind the head
pub record StopsBehindHead (bytes : List ℕ) (old new : World) : Type 0 where
  pub head : WavHead
  pub begins : IsHead bytes head
  pub stands : IsAt bytes head.taken new.input.bytes
  pub before : StopsBefore bytes old new

-- it stopped in the data: exactly the whole frames of the samples in the data bytes taken were added, as far as the source tells
-- these; the byte behind the limit isn't counted
pub record StopsIn (o : Options) (bytes : List ℕ) (old new : World) : Type 0 where
  pub head : WavHead
  pub begun : IsBegun o bytes head
  pub count : ℕ
  pub taken : FramesTaken bytes head limit count new.input.bytes
  pub added : Added o (sound_of head bytes) count old.sinks new.sinks

-- a write failed: whole frames were added, and a front of the next or of its line. No byte behind that frame's samples was taken
pub record Breaks (o : Options) (bytes : List ℕ) (old new : World) : Type 0 where
  pub head : WavHead
  pub begun : IsBegun o bytes head
  pub broken : Broken
  pub rose : RoseAt broken old.sinks new.sinks
  pub added : AddedFront o (sound_of head bytes) broken old.sinks new.sinks
  pub fewer : added.count < frames_of (sound_of head bytes)
  pub left : new.input.bytes ≡ Some (drop (place_behind head bytes (added.count + 1)) bytes)

-- what encode leaves, by its answer, where the source told these bytes
abbrev pub EncodeLeaves : Options → Status → List ℕ → World → World → Type 0
EncodeLeaves o Ok bytes old new = Encodes o bytes old new
EncodeLeaves o Usage bytes old new = ⊥
EncodeLeaves o (BadWav kind place) bytes old new =
    StopsBefore bytes old new ⊎ (IsAt bytes (length bytes) new.input.bytes × StopsIn o bytes old new)
EncodeLeaves o (RateTooLow part needed room) bytes old new = StopsBehindHead bytes old new
EncodeLeaves o (BadStream frame fault) bytes old new = ⊥
EncodeLeaves o ReadFault bytes old new = StopsBefore bytes old new ⊎ StopsIn o bytes old new
EncodeLeaves o WriteFault bytes old new = Breaks o bytes old new
EncodeLeaves o NoMemory bytes old new = StopsBefore bytes old new
EncodeLeaves o (TooLong most) bytes old new =
    StopsBefore bytes old new ⊎ (IsAt bytes (limit + 1) new.input.bytes × StopsIn o bytes old new)

-- why encode has this answer
abbrev pub EncodeHasCause : Options → Status → List ℕ → Type 0
EncodeHasCause o Ok bytes = (head : WavHead) × IsInput o bytes head
EncodeHasCause o Usage bytes = ⊥
EncodeHasCause o (BadWav kind place) bytes = IsRefused o bytes kind place
EncodeHasCause o (RateTooLow part needed room) bytes = IsRateTooLow o bytes part needed room
EncodeHasCause o (BadStream frame fault) bytes = ⊥
EncodeHasCause o ReadFault bytes = Unit {0}
EncodeHasCause o WriteFault bytes = (head : WavHead) × IsBegun o bytes head
EncodeHasCause o NoMemory bytes = Unit {0}
EncodeHasCause o (TooLong most) bytes = IsTooLong o bytes × (most ≡ limit)
