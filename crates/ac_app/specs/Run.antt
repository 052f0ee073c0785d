-- What a run leaves, by its command and its answer, and why each answer came: this project's own rules.
use Rattle.std.specs.Prelude.{◌≡◌, ◌⊎◌, ℕ, Bool, true, false, List, ◌++◌, Some}
use Rattle.ac_io.specs.Outside.{Rose, Adds, AddsFront}
use Rattle.ac_riff.specs.declared.head.WavHead.{WavHead}
use Rattle.ac_wav.specs.Whole.{behind}
use Rattle.ac_words.specs.Grammar.{Text, InGrammar}
use Rattle.ac_words.specs.Asked.{GivesCommand}
use Rattle.ac_words.specs.declared.meaning.Command.{Command}
use Rattle.ac_words.specs.declared.meaning.Command.TheVariants.{Encode, Decode, Synth}
use Rattle.ac_words.specs.declared.meaning.Options.{Options}
use Rattle.ac_status.specs.declared.status.Status.{Status}
use Rattle.ac_status.specs.declared.status.Status.TheVariants.{Ok, Usage, BadWav, RateTooLow, BadStream, ReadFault, WriteFault, NoMemory, TooLong}
use Rattle.ac_status.specs.Lines.{status_line}
use Rattle.ac_encode.specs.Encodes.{EncodeLeaves, EncodeHasCause}
use Rattle.ac_encode.specs.Input.{IsInput}
use Rattle.ac_encode.specs.Sound.{sound_of, frames_of}
use Rattle.ac_encode.specs.Stream.{IsStream}
use Rattle.ac_world.specs.World.{Told, World}
use Rattle.ac_app.specs.Decoded.{DecodeLeaves, DecodeHasCause, IsDecoded}
use Rattle.ac_synth.specs.Synth.{SynthLeaves}
use Rattle.ac_app.specs.Generated.{SynthHasCause, IsSynthesised}

-- ---- all commands

abbrev pub CommandLeaves : Command → Status → List ℕ → World → World → Type 0
CommandLeaves (Encode o) status bytes old new = EncodeLeaves o status bytes old new
CommandLeaves Decode status bytes old new = DecodeLeaves status bytes old new
CommandLeaves (Synth seed frames) status bytes old new = (new.input ≡ old.input) × SynthLeaves seed frames status old.sinks new.sinks

abbrev pub CommandHasCause : Command → Status → List ℕ → Type 0
CommandHasCause (Encode o) status bytes = EncodeHasCause o status bytes
CommandHasCause Decode status bytes = DecodeHasCause status bytes
CommandHasCause (Synth seed frames) status bytes = SynthHasCause status

-- ---- the job

-- the words ask for an encode with these options
abbrev pub AsksEncode : List Text → Options → Type 0
AsksEncode ws o = GivesCommand ws (Encode o)

-- they ask for a decode
abbrev pub AsksDecode : List Text → Type 0
AsksDecode ws = GivesCommand ws Decode

-- the words ask for a command, which leaves this
abbrev pub WordsLeave : List Text → Status → List ℕ → World → World → Type 0
WordsLeave ws status bytes old new = (c : Command) × GivesCommand ws c × CommandLeaves c status bytes old new

-- the words ask for a command, which has a cause of this answer
abbrev pub WordsHaveCause : List Text → Status → List ℕ → Type 0
WordsHaveCause ws status bytes = (c : Command) × GivesCommand ws c × CommandHasCause c status bytes

-- what a job leaves
abbrev pub JobLeaves : List Text → Status → List ℕ → World → World → Type 0
JobLeaves ws Ok bytes old new = WordsLeave ws Ok bytes old new
JobLeaves ws Usage bytes old new = new ≡ old
JobLeaves ws (BadWav kind place) bytes old new = WordsLeave ws (BadWav kind place) bytes old new
JobLeaves ws (RateTooLow part needed room) bytes old new = WordsLeave ws (RateTooLow part needed room) bytes old new
JobLeaves ws (BadStream frame fault) bytes old new = WordsLeave ws (BadStream frame fault) bytes old new
JobLeaves ws ReadFault bytes old new = WordsLeave ws ReadFault bytes old new
JobLeaves ws WriteFault bytes old new = WordsLeave ws WriteFault bytes old new
JobLeaves ws NoMemory bytes old new = (new ≡ old) ⊎ WordsLeave ws NoMemory bytes old new
JobLeaves ws (TooLong most) bytes old new = WordsLeave ws (TooLong most) bytes old new

-- why a job, and a run, has this answer
abbrev pub HasCause : List Text → Status → List ℕ → Type 0
HasCause ws Ok bytes = WordsHaveCause ws Ok bytes
HasCause ws Usage bytes = InGrammar ws → ⊥
HasCause ws (BadWav kind place) bytes = WordsHaveCause ws (BadWav kind place) bytes
HasCause ws (RateTooLow part needed room) bytes = WordsHaveCause ws (RateTooLow part needed room) bytes
HasCause ws (BadStream frame fault) bytes = WordsHaveCause ws (BadStream frame fault) bytes
HasCause ws ReadFault bytes = WordsHaveCause ws ReadFault bytes
HasCause ws WriteFault bytes = WordsHaveCause ws WriteFault bytes
HasCause ws NoMemory bytes = Unit {0}
HasCause ws (TooLong most) bytes = WordsHaveCause ws (TooLong most) bytes

-- ---- the run: a job, and then its status line

-- a line was written whole, or a front of it where the report failed
abbrev pub Tail : Bool → Told → Told → List ℕ → Type 0
Tail true old new line = Adds old.bytes new.bytes line
Tail false old new line = AddsFront old.bytes new.bytes line × Rose old.faults new.faults

-- a status line that could not be written turns Ok into WriteFault
abbrev pub answer_of : Status → Bool → Status
answer_of Ok false = WriteFault
answer_of status _ = status

-- what a run leaves, where the source told these bytes: what its job leaves, and then the status line
pub record RunLeaves (ws : List Text) (result : Status) (bytes : List ℕ) (old new : World) : Type 0 where
  pub status : Status
  pub whole : Bool
  pub answer : result ≡ answer_of status whole
  pub between : Told
  pub job : JobLeaves ws status bytes old (record new { sinks = record new.sinks { report = between } })
  pub line : Tail whole between new.sinks.report (status_line status)

-- all is done that encode was asked for: the frames of the sound, their lines, and the status line
pub record IsEncoded (o : Options) (bytes : List ℕ) (old new : World) : Type 0 where
  pub head : WavHead
  pub input : IsInput o bytes head
  pub left : new.input.bytes ≡ Some (behind head bytes)
  pub stream : List ℕ
  pub lines : List ℕ
  pub is_stream : IsStream o (sound_of head bytes) (frames_of (sound_of head bytes)) stream lines
  pub output : Adds old.sinks.output.bytes new.sinks.output.bytes stream
  pub report : Adds old.sinks.report.bytes new.sinks.report.bytes (lines ++ status_line Ok)

abbrev pub CommandIsDone : Command → List ℕ → World → World → Type 0
CommandIsDone (Encode o) bytes old new = IsEncoded o bytes old new
CommandIsDone Decode bytes old new = IsDecoded bytes old new
CommandIsDone (Synth seed frames) bytes old new = IsSynthesised seed frames old new

-- all is done that the words ask for
abbrev pub IsDone : List Text → List ℕ → World → World → Type 0
IsDone ws bytes old new = (c : Command) × GivesCommand ws c × CommandIsDone c bytes old new
