use Rattle.ac_syntax.proofs.Counted.{block_lawful, block_length}
use Rattle.ac_syntax.proofs.tests.next.Goals as goal

pub returns-clause-lawful : goal.returns-clause-lawful
returns-clause-lawful c = let v = c.in_ok-block.ensures.value in block_lawful c.args.head.now c.args.earlier.now c.in_ok-block.block v.0 v.1

pub returns-clause-len : goal.returns-clause-len
returns-clause-len c =
    let v =
    c.in_ok-block.ensures.value in block_length c.args.head.now c.args.earlier.now c.in_ok-block.block v.0 c.args.source.now
    c.read_block.new.source v.1 v.2
