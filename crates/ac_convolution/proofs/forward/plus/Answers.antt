use Rattle.std.proofs.Common.{◌^◌, ◌+ℤ◌, pos, slice_index_or, SFits, w32, rules, arith}
use Rattle.std.proofs.lemmas.Int.{to_z-of_z}
use Rattle.ac_convolution.specs.Negacyclic.{items}
use Rattle.ac_convolution.proofs.More.{more}
use Rattle.ac_convolution.proofs.forward.plus.Goals as goal

pub loop-k-preserved : goal.loop-k-preserved
loop-k-preserved c =
    let u = c.args.u.now in
    let v = c.args.v.now in
    let k = c.loop-k.k in
    let fits_u : SFits w32 (slice_index_or c.args.u.now c.loop-k.k (pos 0)) = search rules in
    let fits_v : SFits w32 (slice_index_or c.args.v.now c.loop-k.k (pos 0)) = search rules in
    let fits : SFits w32 c.sum.result = search rules in
    let left = c.requires.left k (omega arith) in
    let right = c.requires.right k (omega arith) in
    let value = simp to_z-of_z at c.sum.ensures.value in
    let bound = simp to_z-of_z at c.sum.ensures.bound in
    simp to_z-of_z (more 16 (2 ^ 28) k (λ k. items u k +ℤ items v k) c.loop-k.r c.sum.result (omega arith) c.loop-k.invariant value (omega arith))
