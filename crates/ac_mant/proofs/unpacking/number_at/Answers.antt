use Rattle.ac_mant.specs.Unpacking.{ahead_in}
use Rattle.ac_mant.proofs.Reading.{zero_stands}
use Rattle.ac_mant.proofs.unpacking.number_at.Goals as goal

pub returns-in-0 : goal.returns-in-0
returns-in-0 c = zero_stands (ahead_in c.args.held) c.args.bap c.args.place c.args.window.now c.in-0.is
