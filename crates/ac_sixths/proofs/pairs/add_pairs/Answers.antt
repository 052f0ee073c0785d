use Rattle.std.proofs.Common.{◌+◌, ℕ, arith}
use Rattle.ac_sixths.specs.Runs.{piece_at}
use Rattle.ac_sixths.proofs.Meanings.{piece_read}
use Rattle.ac_sixths.proofs.Paired.{two_small, twos_small}
use Rattle.ac_sixths.proofs.Totals.{total_none, total_first}
use Rattle.ac_sixths.proofs.pairs.add_pairs.Goals as goal

pub loop-i-init : goal.loop-i-init
loop-i-init g c = record {
  long = omega arith;
  so_far = λ j h. let F = piece_at c.args.f.now c.args.pairs.now (c.args.base + j) c.args.a 2 in omega (arith, total_none F 0);
}

pub add_two-requires-clause-room : goal.add_two-requires-clause-room
add_two-requires-clause-room g c = λ (j : ℕ) h.
    let i = c.loop-i.i in
    let f = c.args.f.now in
    let pairs = c.args.pairs.now in
    let read = piece_read f pairs c.args.base j c.args.a 2 i in
    let here = two_small f pairs c.args.base j c.args.a g.row.N i c.requires.base h c.requires.small c.requires.pairs c.loop-i-test.true in
    let before = twos_small f pairs c.args.base j c.args.a g.row.N i c.requires.base h c.requires.small c.requires.pairs (omega arith) in
    omega (arith, c.loop-i.invariant.so_far j h, c.requires.room j h, here, before, read, c.requires.width)

pub loop-i-preserved : goal.loop-i-preserved
loop-i-preserved g c = record {
  long = omega (arith, c.add_two.array_long);
  so_far = λ j h. let F = piece_at c.args.f.now c.args.pairs.now (c.args.base + j) c.args.a 2 in let e = piece_read c.args.f.now c.args.pairs.now c.args.base j c.args.a 2 c.loop-i.i in omega (arith, c.add_two.ensures j h, c.loop-i.invariant.so_far j h, total_first F c.loop-i.i, e);
}
