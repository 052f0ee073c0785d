use Rattle.std.proofs.Common.{◌-◌, ◌^◌, ◌+ℤ◌, pos, slice_index_or, SFits, w64, rules, arith, sym, ◌∙◌, ap}
use Rattle.std.proofs.lemmas.Int.{to_z-of_z}
use Rattle.ac_convolution.specs.Negacyclic.{items}
use Rattle.ac_convolution.specs.Transform.{eight_of, joined_of}
use Rattle.ac_convolution.proofs.More.{more}
use Rattle.ac_convolution.proofs.Karatsuba.{joined_low, joined_high}
use Rattle.ac_convolution.proofs.product.product.Goals as goal

pub loop-k-preserved : goal.loop-k-preserved
loop-k-preserved c =
    let p = items c.args.parts.now in
    let w = items c.args.kernel.now in
    let k = c.loop-k.k in
    let fits : SFits w64 (slice_index_or c.eight_more-low.result c.loop-k.k (pos 0)) = search rules in
    let value = c.eight_more-low.ensures.value (k) (omega arith) ∙ ap (λ z. z +ℤ eight_of p 0 w 0 (k)) (c.eight-both.ensures.value (k) (omega arith)) ∙ sym (joined_low p w k (omega arith)) in
    simp to_z-of_z (more 16 (2 ^ 54) k (joined_of p w) c.loop-k.r (slice_index_or c.eight_more-low.result (k) (pos 0)) (omega arith) c.loop-k.invariant value (c.eight_more-low.ensures.bound (k) (omega arith)))

pub loop-m-preserved : goal.loop-m-preserved
loop-m-preserved c =
    let p = items c.args.parts.now in
    let w = items c.args.kernel.now in
    let m = c.loop-m.m in
    let fits : SFits w64 (slice_index_or c.eight_more-high.result (c.loop-m.m - 8) (pos 0)) = search rules in
    let value = c.eight_more-high.ensures.value (m - 8) (omega arith) ∙ ap (λ z. z +ℤ eight_of p 8 w 16 (m - 8)) (c.eight-both.ensures.value (m - 8) (omega arith)) ∙ sym (joined_high p w m (omega arith)) in
    simp to_z-of_z (more 16 (2 ^ 54) m (joined_of p w) c.loop-m.r (slice_index_or c.eight_more-high.result (m - 8) (pos 0)) (omega arith) c.loop-m.invariant value (c.eight_more-high.ensures.bound (m - 8) (omega arith)))
