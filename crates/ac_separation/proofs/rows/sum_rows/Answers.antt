use Rattle.std.proofs.Common.{◌<◌, pos, slice_index_or, length, length-set, arith, rules, SFits, w32, inl, ◌∙◌, neg_ℤ, ◌+ℤ◌}
use Rattle.std.proofs.lemmas.Int.{to_z-of_z}
use Rattle.ac_separation.specs.Separation.{clamped}
use Rattle.ac_separation.specs.Written.{at}
use Rattle.ac_separation.proofs.Writing.{written_to, sum_more, difference_more}
use Rattle.ac_separation.proofs.rows.sum_rows.Goals as goal

pub loop-k-preserved : goal.loop-k-preserved
loop-k-preserved c =
    let fits_l : SFits w32 (slice_index_or c.loop-k.left c.loop-k.k (pos 0)) = search rules in
    let fits_r : SFits w32 (slice_index_or c.loop-k.right c.loop-k.k (pos 0)) = search rules in
    let fits_a : SFits w32 c.sum.result = search rules in
    let fits_b : SFits w32 c.difference.result = search rules in
    let inv = c.loop-k.invariant in
    let room_l : c.loop-k.k < length c.loop-k.left = omega (arith, inv.1) in
    let room_r : c.loop-k.k < length c.loop-k.right = omega (arith, inv.2) in
    let sum = simp to_z-of_z at c.sum.ensures in
    let difference = simp to_z-of_z at c.difference.ensures in
    simp to_z-of_z (
      inl (omega arith),
      length-set c.loop-k.left c.loop-k.k c.sum.result ∙ inv.1,
      length-set c.loop-k.right c.loop-k.k c.difference.result ∙ inv.2,
      sum_more c.args.start c.loop-k.k c.args.left.now c.args.right.now c.loop-k.left c.loop-k.right c.sum.result c.difference.result c.loop-k.auto.k room_l room_r inv.3 inv.4 sum,
      difference_more c.args.start c.loop-k.k c.args.left.now c.args.right.now c.loop-k.left c.loop-k.right c.sum.result c.difference.result c.loop-k.auto.k room_l room_r inv.3 inv.4 difference,
    )

pub returns-clause-left : goal.returns-clause-left
returns-clause-left c =
    written_to c.args.start c.loop-k.k c.args.end (λ k. clamped (at c.args.left.now k +ℤ at c.args.right.now k)) (at c.args.left.now) (at c.loop-k.left) (omega arith) c.loop-k.invariant.0 c.loop-k.invariant.3

pub returns-clause-right : goal.returns-clause-right
returns-clause-right c =
    written_to c.args.start c.loop-k.k c.args.end (λ k. clamped (at c.args.left.now k +ℤ neg_ℤ (at c.args.right.now k))) (at c.args.right.now) (at c.loop-k.right) (omega arith) c.loop-k.invariant.0 c.loop-k.invariant.4
