-- Why synth has its status, and all that it leaves where all is done: this project's own rules.
use Rattle.std.specs.Prelude.{◌≡◌, ℕ, ◌+◌, ◌++◌, List}
use Rattle.ac_io.specs.Outside.{Adds}
use Rattle.ac_record.specs.Frames.{FrameCodes}
use Rattle.ac_status.specs.Lines.{status_line}
use Rattle.ac_status.specs.declared.status.Status.{Status}
use Rattle.ac_status.specs.declared.status.Status.TheVariants as statuses
use Rattle.ac_synth.specs.Synth.{IsMade, sum_of, synth_line}
use Rattle.ac_world.specs.World.{World}

-- it reads nothing: no input is the cause of an answer, and only three come
abbrev pub SynthHasCause : Status → Type 0
SynthHasCause statuses.Ok = Unit {0}
SynthHasCause statuses.Usage = ⊥
SynthHasCause (statuses.BadWav kind place) = ⊥
SynthHasCause (statuses.RateTooLow part needed room) = ⊥
SynthHasCause (statuses.BadStream frame fault) = ⊥
SynthHasCause statuses.ReadFault = ⊥
SynthHasCause statuses.WriteFault = Unit {0}
SynthHasCause statuses.NoMemory = Unit {0}
SynthHasCause (statuses.TooLong most) = ⊥

-- all is done: the frames of the generated sound were added, the line with what was counted, and the status line
pub record IsSynthesised (seed frames : ℕ) (old new : World) : Type 0 where
  pub stream : List ℕ
  pub readings : List FrameCodes
  pub best : ℕ
  pub bounded : ℕ
  pub made : IsMade seed frames frames stream readings best bounded
  pub all : best + bounded ≡ frames
  pub output : Adds old.sinks.output.bytes new.sinks.output.bytes stream
  pub report : Adds old.sinks.report.bytes new.sinks.report.bytes
      (synth_line frames best bounded (sum_of readings) ++ status_line statuses.Ok)
