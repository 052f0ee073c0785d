use Rattle.std.proofs.Common.{◌^◌, ◌*◌, arith, subst, sym}
use Rattle.ac_energy.specs.Coefficients.{cell_of}
use Rattle.ac_rematrix.specs.Energies.{blocks_energies, AreAtMost}
use Rattle.ac_rematrix.proofs.Sums.{blocks_none, blocks_more, blocks_bound, at_most_more}
use Rattle.ac_rematrix.proofs.energies.sum_blocks.Goals as goal

pub loop-b-init : goal.loop-b-init
loop-b-init c = blocks_none (cell_of c.args.left.now) (cell_of c.args.right.now) c.args.start c.args.count

pub add_row-sums-requires-clause-room : goal.add_row-sums-requires-clause-room
add_row-sums-requires-clause-room c =
    let l = cell_of c.args.left.now in
    let r = cell_of c.args.right.now in
    let bound = blocks_bound l r c.args.start c.args.count c.loop-b.b c.requires.left c.requires.right (omega arith) (omega arith) in
    subst (AreAtMost (5 * 2 ^ 58)) (sym c.loop-b.invariant) (at_most_more (c.loop-b.b * 2 ^ 58) (5 * 2 ^ 58) (blocks_energies l r c.args.start c.args.count c.loop-b.b) (omega arith) bound)

pub loop-b-preserved : goal.loop-b-preserved
loop-b-preserved c =
    blocks_more c.loop-b.sums c.add_row-sums.result (cell_of c.args.left.now) (cell_of c.args.right.now) c.args.start c.args.count c.loop-b.b c.loop-b.invariant c.add_row-sums.ensures

pub returns-clause-bound : goal.returns-clause-bound
returns-clause-bound c =
    let l = cell_of c.args.left.now in
    let r = cell_of c.args.right.now in
    let bound = blocks_bound l r c.args.start c.args.count c.loop-b.b c.requires.left c.requires.right (omega arith) (omega arith) in
    subst (AreAtMost (6 * 2 ^ 58)) (sym c.loop-b.invariant) (at_most_more (c.loop-b.b * 2 ^ 58) (6 * 2 ^ 58) (blocks_energies l r c.args.start c.args.count c.loop-b.b) (omega arith) bound)
