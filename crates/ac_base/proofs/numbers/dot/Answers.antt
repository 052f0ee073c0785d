use Rattle.std.proofs.Common.{pos, slice_index_or, SFits, w32, rules, sym, arith, ◌*ℤ◌}
use Rattle.std.proofs.lemmas.Int.{to_z-of_z}
use Rattle.ac_base.proofs.Sums.{room, some_products, sigma_zero, sigma_more}
use Rattle.ac_base.proofs.numbers.dot.Goals as goal

pub loop-i-init : goal.loop-i-init
loop-i-init g c = sym (sigma_zero _)

pub add_product-sum-requires : goal.add_product-sum-requires
add_product-sum-requires g c =
    let fits_a : SFits w32 (slice_index_or c.args.a.now c.loop-i.i (pos 0)) = search rules in
    let fits_b : SFits w32 (slice_index_or c.args.b.now c.loop-i.i (pos 0)) = search rules in
    simp to_z-of_z (room g.row.N c.loop-i.i c.args.a.now c.args.b.now _ (some_products g.row.N c.requires.size) c.requires.left c.requires.right c.loop-i.invariant c.loop-i-test.true)

pub loop-i-preserved : goal.loop-i-preserved
loop-i-preserved g c =
    let more = sigma_more c.loop-i.i (λ i. slice_index_or c.args.a.now i (pos 0) *ℤ slice_index_or c.args.b.now i (pos 0)) in
    grind (arith, to_z-of_z, more)
