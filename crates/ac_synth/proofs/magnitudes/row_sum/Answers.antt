use Rattle.std.proofs.Common.{◌≡◌, unsigned_abs, pos, slice_index_or, SFits, w32, rules, arith}
use Rattle.std.proofs.lemmas.Int.{to_z-of_z}
use Rattle.ac_synth.proofs.Sums.{row_none, row_more}
use Rattle.ac_synth.proofs.magnitudes.row_sum.Goals as goal

pub loop-t-init : goal.loop-t-init
loop-t-init c = record { value = row_none c.args.row.now; bound = omega arith }

pub loop-t-preserved : goal.loop-t-preserved
loop-t-preserved c =
    let t = c.loop-t.t in
    let fits : SFits w32 (slice_index_or c.args.row.now t (pos 0)) = search rules in
    let here : c.magnitude-sum.result ≡ unsigned_abs (slice_index_or c.args.row.now t (pos 0)) = simp to_z-of_z at c.magnitude-sum.ensures in
    let small = c.requires t c.loop-t-test.true in
    let value = c.loop-t.invariant.value in
    let bound = c.loop-t.invariant.bound in
    let more = row_more c.args.row.now t in
    record { value = omega (arith, value, here, more); bound = omega (arith, bound, here, small) }
