use Rattle.std.proofs.Common.{◌+◌, arith}
use Rattle.ac_bound.specs.Ways.{potential}
use Rattle.ac_bound.proofs.Sums.{none_yet, one_more}
use Rattle.ac_bound.proofs.bounds.rest.Goals as goal

pub loop-c-init : goal.loop-c-init
loop-c-init c =
    let done = c.args.done in
    let p = c.args.pots.now.p in
    record {
      value = λ part l. omega (arith, c.potentials-rest.ensures.value part l, none_yet (λ i. potential p (done + 1 + i) part 0) done (done + 1) (omega arith));
      bound = λ part l. omega (arith, c.potentials-rest.ensures.bound part l);
    }

pub loop-c-preserved : goal.loop-c-preserved
loop-c-preserved c =
    let done = c.args.done in
    let p = c.args.pots.now.p in
    let d = c.loop-c.c in
    record {
      value = λ part l.
          omega (arith, c.sums-rest.ensures part l, c.potentials.ensures.value part l, c.loop-c.invariant.value part l, one_more (λ e. potential p e part 0) done d (omega (arith, c.loop-c.auto.c)));
      bound = λ part l. omega (arith, c.sums-rest.ensures part l, c.potentials.ensures.bound part l, c.loop-c.invariant.bound part l, c.loop-c.auto.c);
    }
