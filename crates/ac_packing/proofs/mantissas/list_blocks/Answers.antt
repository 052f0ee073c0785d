use Rattle.std.proofs.Common.{arith, ◌∙◌}
use Rattle.std.proofs.lemmas.List.{length-set}
use Rattle.ac_packing.proofs.Listing.{listed_more}
use Rattle.ac_packing.proofs.mantissas.list_blocks.Goals as goal

pub loop-b-preserved : goal.loop-b-preserved
loop-b-preserved c =
    let lists = c.loop-b.lists in
    let counts = c.loop-b.counts in
    let is = c.loop-b.invariant in (
      length-set lists c.from-at.result _ ∙ is.0,
      length-set counts c.from-at.result c.list_block.result ∙ is.1,
      listed_more c.args.q.now lists counts c.from-at.result c.loop-b.b c.list_block.result _ c.from-at.ensures (omega (arith, is.0, c.loop-b-test.true)) (omega (arith, is.1, c.loop-b-test.true)) is.2
          c.list_block.ensures.list c.list_block.ensures.bound,
    )
