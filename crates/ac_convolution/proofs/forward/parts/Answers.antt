use Rattle.std.proofs.Common.{◌≡◌, ◌-◌, ◌^◌, pos, slice_index_or, SFits, w32, w64, rules, arith, sym, ◌∙◌}
use Rattle.std.proofs.lemmas.Int.{to_z-of_z}
use Rattle.ac_convolution.specs.Negacyclic.{items}
use Rattle.ac_convolution.specs.Transform.{parts_of}
use Rattle.ac_convolution.proofs.More.{more}
use Rattle.ac_convolution.proofs.Karatsuba.{parts_low, parts_high}
use Rattle.ac_convolution.proofs.forward.parts.Goals as goal

pub loop-n-preserved : goal.loop-n-preserved
loop-n-preserved c =
    let x = c.args.x.now in
    let n = c.loop-n.n in
    let fits : SFits w32 (slice_index_or c.args.x.now c.loop-n.n (pos 0)) = search rules in
    let wide : SFits w64 c.from.result = search rules in
    let is : c.from.result ≡ items c.args.x.now c.loop-n.n = simp to_z-of_z at c.from.ensures in
    let small = c.requires n (omega arith) in
    simp to_z-of_z (more 24 (2 ^ 29) n (parts_of (items x)) c.loop-n.r c.from.result (omega arith) c.loop-n.invariant (is ∙ sym (parts_low (items x) n (omega arith))) (rw is (omega arith)))

pub loop-m-preserved : goal.loop-m-preserved
loop-m-preserved c =
    let x = c.args.x.now in
    let m = c.loop-m.m in
    let fits_u : SFits w32 (slice_index_or c.args.x.now (c.loop-m.m - 16) (pos 0)) = search rules in
    let fits_v : SFits w32 (slice_index_or c.args.x.now (c.loop-m.m - 8) (pos 0)) = search rules in
    let fits : SFits w32 c.sum.result = search rules in
    let wide : SFits w64 c.from-in-loop-m.result = search rules in
    let is : c.from-in-loop-m.result ≡ c.sum.result = simp to_z-of_z at c.from-in-loop-m.ensures in
    let left = c.requires (m - 16) (omega arith) in
    let right = c.requires (m - 8) (omega arith) in
    let value = simp to_z-of_z at c.sum.ensures.value in
    let bound = simp to_z-of_z at c.sum.ensures.bound in
    simp to_z-of_z (more 24 (2 ^ 29) m (parts_of (items x)) c.loop-m.r c.from-in-loop-m.result (omega arith) c.loop-m.invariant (is ∙ value ∙ sym (parts_high (items x) m (omega arith))) (rw is (omega arith)))
