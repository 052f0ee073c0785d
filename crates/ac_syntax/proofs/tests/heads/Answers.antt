use Rattle.ac_syntax.proofs.Counted.{head_lawful, head_length}
use Rattle.ac_syntax.proofs.tests.heads.Goals as goal

pub returns-clause-lawful : goal.returns-clause-lawful
returns-clause-lawful c = head_lawful c.read_head.result c.args.source.now c.read_head.new.source c.read_head.ensures.value

pub returns-clause-len : goal.returns-clause-len
returns-clause-len c = head_length c.read_head.result c.args.source.now c.read_head.new.source c.read_head.ensures.value
