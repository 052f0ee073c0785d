use Rattle.ac_coding.proofs.Entries.{rows_clear}
use Rattle.ac_coding.proofs.codes.clear_channel.Goals as goal

pub returns : goal.returns
returns c = λ f. rows_clear c.args.shape.now f c.args.c c.requires
