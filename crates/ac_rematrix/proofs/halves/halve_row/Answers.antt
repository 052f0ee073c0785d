use Rattle.std.proofs.Common.{◌<◌, pos, slice_index_or, length, length-set, arith, rules, SFits, w32, ◌∙◌}
use Rattle.std.proofs.lemmas.Int.{to_z-of_z}
use Rattle.ac_rematrix.proofs.Halved.{halved_more}
use Rattle.ac_rematrix.proofs.halves.halve_row.Goals as goal

pub loop-k-preserved : goal.loop-k-preserved
loop-k-preserved c =
    let fits_l : SFits w32 (slice_index_or c.loop-k.left c.loop-k.k (pos 0)) = search rules in
    let fits_r : SFits w32 (slice_index_or c.loop-k.right c.loop-k.k (pos 0)) = search rules in
    let room_l : c.loop-k.k < length c.loop-k.left = omega arith in
    let room_r : c.loop-k.k < length c.loop-k.right = omega arith in
    let fits_a : SFits w32 c.half_sum.result = search rules in
    let fits_b : SFits w32 c.half_difference.result = search rules in
    let sum = simp to_z-of_z at c.half_sum.ensures in
    let difference = simp to_z-of_z at c.half_difference.ensures in
    simp to_z-of_z (length-set c.loop-k.left c.loop-k.k c.half_sum.result ∙ c.loop-k.invariant.0, length-set c.loop-k.right c.loop-k.k c.half_difference.result ∙ c.loop-k.invariant.1, halved_more c.args.start c.loop-k.k c.args.left.now c.args.right.now c.loop-k.left c.loop-k.right c.half_sum.result c.half_difference.result c.loop-k.auto.k room_l room_r c.loop-k.invariant.2 sum difference)
