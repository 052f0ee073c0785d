use Rattle.ac_packing.proofs.Bodies.{block_sent}
use Rattle.ac_packing.proofs.body.block_at.Goals as goal

pub returns : goal.returns
returns c = block_sent c.args.q.now c.args.b c.args.x c.skipl_of.result c.frame_block.result c.requires.skipped c.skipl_of.ensures c.frame_block.ensures.value
