use Rattle.std.proofs.Common.{sym}
use Rattle.ac_joint.proofs.Joined.{coupled_is}
use Rattle.ac_joint.proofs.couple_where.Goals as goal

pub returns-then-is_some-clause-shared : goal.returns-then-is_some-clause-shared
returns-then-is_some-clause-shared c =
    coupled_is c.args.shape.now c.args.coefs.now.c c.couple.new.coefs.c (sym c.if-is_some.ensures) c.couple.ensures.full c.couple.ensures.mean c.couple.ensures.low
