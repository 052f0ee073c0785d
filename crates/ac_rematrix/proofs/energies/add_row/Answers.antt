use Rattle.std.proofs.Common.{◌+◌, ◌*◌, ◌^◌, pos, slice_index_or, arith, rules, SFits, w32, subst, sym, ap, ◌∙◌, ◌≡◌}
use Rattle.std.proofs.lemmas.Int.{to_z-of_z}
use Rattle.ac_rematrix.specs.Energies.{with_row, AreAtMost}
use Rattle.ac_rematrix.proofs.Sums.{row_more, row_bound, row_none, at_most_more}
use Rattle.ac_rematrix.proofs.Halved.{at}
use Rattle.ac_rematrix.proofs.energies.add_row.Goals as goal

pub loop-i-init : goal.loop-i-init
loop-i-init c = row_none c.args.energies (at c.args.left.now) (at c.args.right.now) c.args.start

pub add_bin-sums-requires-clause-room : goal.add_bin-sums-requires-clause-room
add_bin-sums-requires-clause-room c =
    let bound = row_bound (at c.args.left.now) (at c.args.right.now) c.args.start c.loop-i.i c.args.count (5 * 2 ^ 58) c.args.energies c.requires.left c.requires.right c.loop-i.auto.i-end c.requires.room in
    subst (AreAtMost (2 ^ 62)) (sym c.loop-i.invariant) (at_most_more (5 * 2 ^ 58 + c.loop-i.i * 2 ^ 50) (2 ^ 62) (with_row c.args.energies (at c.args.left.now) (at c.args.right.now) c.args.start c.loop-i.i) (omega arith) bound)

pub loop-i-preserved : goal.loop-i-preserved
loop-i-preserved c =
    let fits_l : SFits w32 (slice_index_or c.args.left.now (c.args.start + c.loop-i.i) (pos 0)) = search rules in
    let fits_r : SFits w32 (slice_index_or c.args.right.now (c.args.start + c.loop-i.i) (pos 0)) = search rules in
    let e = simp to_z-of_z at c.add_bin-sums.ensures in
    row_more c.args.energies c.loop-i.sums c.add_bin-sums.result (at c.args.left.now) (at c.args.right.now) c.args.start c.loop-i.i c.loop-i.invariant e.left e.right e.plus e.less

pub returns : goal.returns
returns c =
    let all : c.loop-i.i ≡ c.args.count = omega arith in
    c.loop-i.invariant ∙ ap (with_row c.args.energies (at c.args.left.now) (at c.args.right.now) c.args.start) all
