use Rattle.std.proofs.Common.{arith, ◌∙◌}
use Rattle.ac_convolution.specs.Negacyclic.{items}
use Rattle.ac_convolution.specs.Rows.{row}
use Rattle.ac_convolution.specs.Transform.{inverse_of, waves_of}
use Rattle.ac_convolution.proofs.Alternating.{wave_16}
use Rattle.ac_convolution.proofs.Classes.{eighth_is}
use Rattle.ac_convolution.proofs.More.{row_anew}
use Rattle.ac_convolution.proofs.inverse.inverse.Goals as goal

pub loop-i-preserved : goal.loop-i-preserved
loop-i-preserved c =
    let q = c.args.q.now in
    let i = c.loop-i.i in
    row_anew 16 16 i (inverse_of (waves_of q)) c.loop-i.out c.eighth.result (omega arith) c.loop-i.invariant
    (λ k within. c.eighth.ensures k within ∙ eighth_is (waves_of q) (λ e. wave_16 (items (row q e))) c.classes.new.x c.classes.ensures.value i k (omega arith) within)
