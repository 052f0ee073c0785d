use Rattle.std.proofs.Common.{◌≡◌, ◌<◌, length, length-set, ◌∙◌, arith}
use Rattle.ac_bound.proofs.Filling.{fill_more, rest_more}
use Rattle.ac_bound.proofs.pots.Pots.of.Goals as goal

pub loop-c-preserved : goal.loop-c-preserved
loop-c-preserved c =
    let v = c.args.table.now in
    let p = c.loop-c.pots.p in
    let so = c.loop-c.invariant in
    let d = c.loop-c.c in
    let inside : d < length p = omega (arith, so.long, c.coded-c-end.ensures.bound, c.loop-c-test.true) in
    let e : c.from.result ≡ d = omega arith in
    let new = c.by_part.result in
    record {
      done = rw e (fill_more v p new c.least_costs.result d inside c.least_costs.ensures c.by_part.ensures so.done);
      rest = rw e (rest_more p new d so.rest);
      long = rw e (length-set p d new ∙ so.long);
    }
