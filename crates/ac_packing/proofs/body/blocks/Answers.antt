use Rattle.ac_sent.specs.Fields.{sent_block}
use Rattle.ac_packing.proofs.Bodies.{same_six}
use Rattle.ac_packing.proofs.body.blocks.Goals as goal

pub returns : goal.returns
returns c =
    same_six (sent_block c.args.q.now) c.block_at.result c.block_at-2.result c.block_at-3.result c.block_at-4.result c.block_at-5.result c.block_at-6.result
    c.block_at.ensures c.block_at-2.ensures c.block_at-3.ensures c.block_at-4.ensures c.block_at-5.ensures c.block_at-6.ensures
