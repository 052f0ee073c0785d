use Rattle.std.proofs.Common.{◌+◌, ◌+ℤ◌, ◌*ℤ◌, pos, slice_index_or, SFits, w32, w64, rules, arith, ap, ◌∙◌}
use Rattle.std.proofs.lemmas.Int.{to_z-of_z}
use Rattle.ac_convolution.specs.Negacyclic.{items}
use Rattle.ac_convolution.proofs.More.{anew}
use Rattle.ac_convolution.proofs.sparse.add_products.Goals as goal

pub loop-k-preserved : goal.loop-k-preserved
loop-k-preserved c =
    let k = c.loop-k.k in
    let from = c.args.from in
    let old = c.args.total.now in
    let w = c.args.factors.now in
    let fits_a : SFits w32 c.args.factor = search rules in
    let fits_w : SFits w32 (slice_index_or c.args.factors.now (c.args.from + c.loop-k.k) (pos 0)) = search rules in
    let fits_t : SFits w64 (slice_index_or c.loop-k.total c.loop-k.k (pos 0)) = search rules in
    let fits : SFits w64 c.add_product.result = search rules in
    let value = simp to_z-of_z at c.add_product.ensures in
    let before = simp to_z-of_z at c.loop-k.invariant in
    let same = c.loop-k.invariant.2 k (omega arith) in
    simp to_z-of_z (anew 256 k (λ k. items old k +ℤ (c.args.factor *ℤ items w (from + k))) old c.loop-k.total c.add_product.result (omega arith) before (value ∙ ap (λ z. z +ℤ (c.args.factor *ℤ items w (from + k))) same))
