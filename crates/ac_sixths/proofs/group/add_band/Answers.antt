use Rattle.std.proofs.Common.{◌+◌, ℕ, arith}
use Rattle.ac_sixths.specs.Runs.{piece_at}
use Rattle.ac_sixths.proofs.Meanings.{piece_in, piece_read, piece_small, pieces_small}
use Rattle.ac_sixths.proofs.Totals.{total_none, total_first}
use Rattle.ac_sixths.proofs.group.add_band.Goals as goal

pub loop-i-init : goal.loop-i-init
loop-i-init g c = record {
  long = omega arith;
  so_far = λ j h. let F = piece_at c.args.f.now c.args.levels.now (c.args.base + j) c.args.a g.row.M in omega (arith, total_none F 0);
}

pub add_all-requires-clause-room : goal.add_all-requires-clause-room
add_all-requires-clause-room g c = λ (j : ℕ) h.
    let i = c.loop-i.i in
    let M = g.row.M in
    let f = c.args.f.now in
    let levels = c.args.levels.now in
    let read = piece_read f levels c.args.base j c.args.a M i in
    let here = piece_small f levels c.args.base j c.args.a g.row.N M i c.requires.piece c.requires.base h c.requires.small c.requires.levels c.loop-i-test.true in
    let before = pieces_small f levels c.args.base j c.args.a g.row.N M i c.requires.piece c.requires.base h c.requires.small c.requires.levels (omega arith) in
    let few = piece_in i g.row.N M c.requires.piece c.loop-i-test.true in
    omega (arith, c.loop-i.invariant.so_far j h, c.requires.room j h, here, before, few.1, read, c.requires.width)

pub loop-i-preserved : goal.loop-i-preserved
loop-i-preserved g c = record {
  long = omega (arith, c.add_all.array_long);
  so_far = λ j h. let F = piece_at c.args.f.now c.args.levels.now (c.args.base + j) c.args.a g.row.M in let e = piece_read c.args.f.now c.args.levels.now c.args.base j c.args.a g.row.M c.loop-i.i in omega (arith, c.add_all.ensures j h, c.loop-i.invariant.so_far j h, total_first F c.loop-i.i, e);
}
