use Rattle.std.proofs.Common.{◌+◌, ◌*ℤ◌, ap, arith, ◌∙◌}
use Rattle.ac_base.proofs.Rearranged.{sigma_same}
use Rattle.ac_convolution.specs.Negacyclic.{items, wave}
use Rattle.ac_convolution.proofs.sparse.sparse_correlation.Goals as goal

pub returns : goal.returns
returns c = λ k below.
    let g = items c.args.g.now in
    let h = items c.args.h.now in
    let w = items c.widened.result in
    c.add_places.ensures k below
    ∙ sigma_same 256 (λ i. g i *ℤ w (i + k)) (λ i. g i *ℤ wave 256 h (i + k)) (λ i within. ap (λ z. g i *ℤ z) (c.widened.ensures.value (i + k) (omega arith)))
