use Rattle.std.proofs.Common.{arith}
use Rattle.ac_synth.proofs.Sums.{both_rows}
use Rattle.ac_synth.proofs.magnitudes.pcm_sum.Goals as goal

pub returns-clause-value : goal.returns-clause-value
returns-clause-value c =
    let left = c.row_sum.ensures.value in
    let right = c.row_sum-2.ensures.value in
    let both = both_rows c.args.pcm.now in
    omega (arith, left, right, both)
