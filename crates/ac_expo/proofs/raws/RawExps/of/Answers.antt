use Rattle.ac_expo.proofs.Elsewhere.{silent}
use Rattle.ac_expo.proofs.raws.RawExps.of.Goals as goal

pub returns-clause-silent : goal.returns-clause-silent
returns-clause-silent c = silent c.args.shape.now c.write_channels.new.out.e c.write_channels.ensures.rest
