use Rattle.std.proofs.Common.{◌<◌, pos, slice_index_or, length, length-set, arith, rules, SFits, w32, ◌∙◌}
use Rattle.std.proofs.lemmas.Int.{to_z-of_z}
use Rattle.ac_separation.specs.Written.{at, scaled_by}
use Rattle.ac_separation.proofs.Writing.{written_more}
use Rattle.ac_separation.proofs.rows.scale_subband.Goals as goal

pub loop-k-preserved : goal.loop-k-preserved
loop-k-preserved c =
    let fits_x : SFits w32 (slice_index_or c.args.shared.now c.loop-k.k (pos 0)) = search rules in
    let fits : SFits w32 c.by_scale.result = search rules in
    let room : c.loop-k.k < length c.loop-k.row = omega (arith, c.loop-k.invariant.0) in
    let here = simp to_z-of_z at c.by_scale.ensures in
    simp to_z-of_z (
      length-set c.loop-k.row c.loop-k.k c.by_scale.result ∙ c.loop-k.invariant.0,
      written_more c.args.start c.loop-k.k (λ k. scaled_by c.args.scale (at c.args.shared.now k)) (at c.args.row.now) c.loop-k.row c.by_scale.result c.loop-k.auto.k room c.loop-k.invariant.1 here,
    )
