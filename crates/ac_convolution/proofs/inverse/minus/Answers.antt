use Rattle.std.proofs.Common.{◌^◌, ◌-ℤ◌, pos, slice_index_or, SFits, w64, rules, arith}
use Rattle.std.proofs.lemmas.Int.{to_z-of_z}
use Rattle.ac_convolution.specs.Negacyclic.{items}
use Rattle.ac_convolution.proofs.More.{more}
use Rattle.ac_convolution.proofs.inverse.minus.Goals as goal

pub loop-k-preserved : goal.loop-k-preserved
loop-k-preserved c =
    let u = c.args.u.now in
    let v = c.args.v.now in
    let k = c.loop-k.k in
    let fits_u : SFits w64 (slice_index_or c.args.u.now c.loop-k.k (pos 0)) = search rules in
    let fits_v : SFits w64 (slice_index_or c.args.v.now c.loop-k.k (pos 0)) = search rules in
    let fits : SFits w64 c.difference.result = search rules in
    let left = c.requires.left k (omega arith) in
    let right = c.requires.right k (omega arith) in
    let value = simp to_z-of_z at c.difference.ensures.value in
    let bound = simp to_z-of_z at c.difference.ensures.bound in
    simp to_z-of_z (more 16 (2 ^ 56) k (λ k. items u k -ℤ items v k) c.loop-k.r c.difference.result (omega arith) c.loop-k.invariant value (omega arith))
