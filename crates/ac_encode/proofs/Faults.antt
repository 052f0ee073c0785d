-- Counts of faults, call after call.
use Rattle.std.proofs.Common.{ℕ, ◌≤◌, arith}
use Rattle.ac_io.specs.Outside.{Rose}
use Rattle.ac_world.specs.declared.writing.Broken.{Broken}
use Rattle.ac_world.specs.declared.writing.Broken.TheVariants as broken_ones
use Rattle.ac_world.specs.World.{Sinks, SinksNeverFall}
use Rattle.ac_world.specs.Emits.{RoseAt}

-- a count that rose after others didn't fall
rose_behind : (old mid new : ℕ) → old ≤ mid → Rose mid new → Rose old new
rose_behind old mid new up rose = omega (arith, up, rose)

-- a count that rose before others didn't fall
rose_before : (old mid new : ℕ) → Rose old mid → mid ≤ new → Rose old new
rose_before old mid new rose up = omega (arith, up, rose)

pub sink_behind : (broken : Broken) (old mid new : Sinks) → SinksNeverFall old mid → RoseAt broken mid new → RoseAt broken old new
sink_behind broken_ones.Output old mid new up rose = rose_behind old.output.faults mid.output.faults new.output.faults up.0 rose
sink_behind broken_ones.Report old mid new up rose = rose_behind old.report.faults mid.report.faults new.report.faults up.1 rose
