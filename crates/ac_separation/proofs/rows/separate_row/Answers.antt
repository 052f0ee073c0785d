use Rattle.std.proofs.Common.{◌<◌, arith, ◌∙◌}
use Rattle.ac_separation.specs.Written.{at}
use Rattle.ac_separation.proofs.Subbands.{band_bound}
use Rattle.ac_separation.proofs.Writing.{subband_more}
use Rattle.ac_separation.proofs.rows.separate_row.Goals as goal

pub scale_in-scale-requires-clause-band : goal.scale_in-scale-requires-clause-band
scale_in-scale-requires-clause-band c =
    let few : c.loop-n.n < 18 = omega (arith, c.requires.shared.start, c.requires.shared.end) in
    omega (arith, c.from-in-loop-n.ensures, c.requires.shared.bands c.loop-n.n few, band_bound c.args.block.now c.loop-n.n)

pub loop-n-preserved : goal.loop-n-preserved
loop-n-preserved c =
    let few : c.loop-n.n < 18 = omega (arith, c.requires.shared.start, c.requires.shared.end) in
    subband_more c.args.block.now c.args.c c.from-in-loop-n.result c.loop-n.n c.from-start.result c.scale_in-scale.result (at c.args.shared.now.row) (at c.args.row.now) (at c.loop-n.row) (at c.scale_subband.new.row)
    (c.from-in-loop-n.ensures ∙ c.requires.shared.bands c.loop-n.n few)
    c.scale_in-scale.ensures.factor c.scale_in-scale.ensures.shift c.scale_in-scale.ensures.turned c.loop-n.invariant c.scale_subband.ensures
