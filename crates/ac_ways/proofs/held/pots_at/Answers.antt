use Rattle.std.proofs.Common.{◌<◌, length, length-set, ◌∙◌, arith}
use Rattle.ac_ways.proofs.Picked.{pick_more, picked}
use Rattle.ac_ways.proofs.held.pots_at.Goals as goal

pub loop-c-preserved : goal.loop-c-preserved
loop-c-preserved c =
    let so = c.loop-c.invariant in
    let p = c.loop-c.pots.p in
    let new = c.columns.result in
    let inside : c.loop-c.c < length p = omega (arith, so.long, c.loop-c-test.true) in
    record {
      done = pick_more p c.args.ways.now.p c.args.j new c.loop-c.c inside c.columns.ensures so.done;
      long = length-set p c.loop-c.c new ∙ so.long;
    }

pub returns : goal.returns
returns c =
    let so = c.loop-c.invariant in
    let stop = c.loop-c-test.false in
    record {
      value = λ d part at l m h. so.done d part at (omega (arith, l, stop)) m h;
      pots = picked c.loop-c.pots.p c.args.ways.now.p c.args.j (λ d part at l m h. so.done d part at (omega (arith, l, stop)) m h);
    }
