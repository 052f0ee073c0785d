use Rattle.std.proofs.Common.{arith}
use Rattle.ac_levels.proofs.Stepping.{first_steps_of}
use Rattle.ac_levels.proofs.steps.place_block.Goals as goal

pub returns : goal.returns
returns c =
    first_steps_of c.args.span.now c.args.raw.now c.args.block _ _ _ _ c.place_bins.new.places c.cap.new.places c.requires.span c.from.ensures c.from-2.ensures c.from-3.ensures (omega (arith, c.first_step-at.ensures.value)) c.place_bins.ensures.inside c.place_bins.ensures.outside c.cap.ensures.first c.cap.ensures.others
