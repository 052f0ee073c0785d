-- When a status may say that something failed.
use Rattle.std.specs.Prelude.{◌⊎◌}
use Rattle.ac_io.specs.Outside.{Rose}
use Rattle.ac_status.specs.declared.status.Status.{Status}
use Rattle.ac_status.specs.declared.status.Status.TheVariants.{Ok, Usage, BadWav, RateTooLow, BadStream, ReadFault, WriteFault, NoMemory, TooLong}
use Rattle.ac_world.specs.World.{World}

-- a fault of reading or of writing comes only where a count of faults rose
abbrev pub RoseFor : Status → World → World → Type 0
RoseFor Ok old new = Unit {0}
RoseFor Usage old new = Unit {0}
RoseFor (BadWav kind place) old new = Unit {0}
RoseFor (RateTooLow part needed room) old new = Unit {0}
RoseFor (BadStream frame fault) old new = Unit {0}
RoseFor ReadFault old new = Rose old.input.faults new.input.faults
RoseFor WriteFault old new =
    Rose old.sinks.output.faults new.sinks.output.faults ⊎ Rose old.sinks.report.faults new.sinks.report.faults
RoseFor NoMemory old new = Unit {0}
RoseFor (TooLong most) old new = Unit {0}
