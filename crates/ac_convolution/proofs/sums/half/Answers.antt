use Rattle.std.proofs.Common.{◌+◌, ◌*◌, ◌∙◌}
use Rattle.ac_base.proofs.Rearranged.{sigma_same}
use Rattle.ac_convolution.specs.Negacyclic.{wave, items}
use Rattle.ac_convolution.specs.Rows.{row}
use Rattle.ac_convolution.specs.Transform.{joined_of, waves_of}
use Rattle.ac_convolution.proofs.Alternating.{wave_same}
use Rattle.ac_convolution.proofs.sums.half.Goals as goal

pub returns : goal.returns
returns c = λ i below k within.
    let q = c.products.new.out in
    let p = c.args.parts.now in
    let w = c.args.kernels.now in
    c.inverse.ensures i below k within
    ∙ sigma_same 32 (λ e. waves_of q e (k + 31 * (e * i))) (λ e. wave 16 (joined_of (items (row p e)) (items (row w e))) (k + 31 * (e * i)))
    (λ e under. wave_same (items (row q e)) (joined_of (items (row p e)) (items (row w e))) (λ s low. c.products.ensures.value e under s low) (k + 31 * (e * i)))
