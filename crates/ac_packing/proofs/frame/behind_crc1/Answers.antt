use Rattle.std.proofs.lemmas.Slice.{between_is}
use Rattle.ac_packing.proofs.frame.behind_crc1.Goals as goal

pub returns-clause-value : goal.returns-clause-value
returns-clause-value c = between_is c.args.bytes.now 4 c.args.to
