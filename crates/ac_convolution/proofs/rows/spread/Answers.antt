use Rattle.std.proofs.Common.{◌^◌, arith, ◌∙◌}
use Rattle.ac_convolution.specs.Negacyclic.{items}
use Rattle.ac_convolution.specs.Transform.{column_of, spread_of}
use Rattle.ac_convolution.proofs.Alternating.{wave_same}
use Rattle.ac_convolution.proofs.More.{rows_more}
use Rattle.ac_convolution.proofs.rows.spread.Goals as goal

pub loop-a-preserved : goal.loop-a-preserved
loop-a-preserved c =
    let g = c.args.g.now in
    let a = c.loop-a.a in
    rows_more 16 48 (2 ^ 24) a (spread_of (items g)) c.loop-a.rows c.widened.result (omega arith) c.loop-a.invariant
    (λ s below. c.widened.ensures.value s below ∙ wave_same (items c.column.result) (column_of (items g) a) c.column.ensures.value s)
    c.widened.ensures.bound
