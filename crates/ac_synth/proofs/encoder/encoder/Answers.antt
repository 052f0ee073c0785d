use Rattle.ac_synth.proofs.Room.{are_options, never_low}
use Rattle.ac_synth.proofs.encoder.encoder.Goals as goal

pub new-requires-clause-options : goal.new-requires-clause-options
new-requires-clause-options c = are_options

pub unreachable-requires : goal.unreachable-requires
unreachable-requires c =
    let low = c.in-Err-RateTooLow in
    never_low low.field-0 low.field-0-0 low.field-0-1 low.field-0-2 low.field-0-is low.ensures.fault
