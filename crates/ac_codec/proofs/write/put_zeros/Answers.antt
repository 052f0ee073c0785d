use Rattle.std.proofs.Common.{arith}
use Rattle.ac_codec.proofs.Spelling.{zeros-more}
use Rattle.ac_codec.proofs.write.put_zeros.Goals as goal

pub loop-more-preserved : goal.loop-more-preserved
loop-more-preserved c =
    let l = c.loop-more in
    let w = c.piece-width in
    record {
      adds = zeros-more c.args.count l.more w.result l.invariant.within w.ensures.within l.invariant.adds c.put.ensures.bits;
      len = omega (arith, l.invariant.len, c.put.ensures.len, w.ensures.within, l.invariant.within);
      within = omega (arith, l.invariant.within);
    }
