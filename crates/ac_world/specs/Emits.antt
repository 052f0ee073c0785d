-- What writing a piece of the output and then its line of the report leaves: this project's own rules.
use Rattle.std.specs.Prelude.{◌≡◌, ℕ, List, Result, Ok, Err}
use Rattle.ac_io.specs.Outside.{Rose, Adds, AddsFront}
use Rattle.ac_world.specs.World.{Sinks}
use Rattle.ac_world.specs.declared.writing.Broken.{Broken}
use Rattle.ac_world.specs.declared.writing.Broken.TheVariants as sinks

-- the count rose of the sink that failed
abbrev pub RoseAt : Broken → Sinks → Sinks → Type 0
RoseAt sinks.Output old new = Rose old.output.faults new.output.faults
RoseAt sinks.Report old new = Rose old.report.faults new.report.faults

-- the piece and then its line were written: where the output failed, a front of the piece and no line
abbrev pub Emits : List ℕ → List ℕ → Result (Unit {0}) Broken → Sinks → Sinks → Type 0
Emits piece line (Ok _) old new = Adds old.output.bytes new.output.bytes piece × Adds old.report.bytes new.report.bytes line
Emits piece line (Err sinks.Output) old new = AddsFront old.output.bytes new.output.bytes piece × (new.report ≡ old.report)
Emits piece line (Err sinks.Report) old new =
    Adds old.output.bytes new.output.bytes piece × AddsFront old.report.bytes new.report.bytes line
