use Rattle.std.proofs.Common.{arith}
use Rattle.ac_bound.proofs.Rows.{first_end, next_end}
use Rattle.ac_bound.proofs.steps.least_at.Goals as goal

pub sums-least-requires : goal.sums-least-requires
sums-least-requires c = record {
  few = λ part p. omega (arith, c.least_between-first.ensures.bound part p);
  more = λ part p. omega (arith, c.requires.few c.from.result part (omega arith) (omega arith) p);
}

pub sums-requires : goal.sums-requires
sums-requires c = record {
  few = λ part p. omega (arith, c.least_between-next.ensures.bound part p);
  more = λ part p. omega (arith, c.requires.few c.from-in-loop-to.result part (omega (arith, c.loop-to.auto.to)) (omega arith) p);
}

pub loop-to-init : goal.loop-to-init
loop-to-init c = record {
  value = first_end c.args.table.now c.args.c c.args.at c.requires.channel c.args.after.now c.from.result c.least_between-first.result c.sums-least.result c.requires.at (omega arith) c.least_between-first.ensures.value c.sums-least.ensures;
  bound = λ part p.
      omega (arith, c.sums-least.ensures part p, c.least_between-first.ensures.bound part p, c.requires.few c.from.result part (omega arith) (omega arith) p);
}

pub loop-to-preserved : goal.loop-to-preserved
loop-to-preserved c = record {
  value = next_end c.args.table.now c.args.c c.args.at c.requires.channel c.args.after.now c.loop-to.to c.from-in-loop-to.result c.least_between-next.result c.sums.result c.loop-to.least c.lesser-least.result (omega (arith, c.loop-to.auto.to)) (omega arith) (omega arith) c.least_between-next.ensures.value c.sums.ensures c.loop-to.invariant.value c.lesser-least.ensures;
  bound = λ part p. omega (arith, c.lesser-least.ensures part p, c.loop-to.invariant.bound part p);
}
