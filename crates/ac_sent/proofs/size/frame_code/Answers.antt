use Rattle.std.proofs.Common.{Some, ap}
use Rattle.ac_sent.proofs.SizeCodes.{one_code}
use Rattle.ac_sent.proofs.size.frame_code.Goals as goal

pub returns-then-is_code-clause-complete : goal.returns-then-is_code-clause-complete
returns-then-is_code-clause-complete c code is =
    ap Some (one_code c.args.fscod c.args.words c.loop-code.code code c.requires.sampling (c.is_code.ensures.0 c.if-is_code.true) is)
