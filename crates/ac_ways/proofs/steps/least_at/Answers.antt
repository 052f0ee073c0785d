use Rattle.std.proofs.Common.{◌≡◌, slice_index, subst, arith}
use Rattle.ac_bound.specs.Steps.{IsLeastOn}
use Rattle.ac_ways.specs.Columns.{entry_of}
use Rattle.ac_ways.proofs.Ranges.{first_end, next_end}
use Rattle.ac_ways.proofs.steps.least_at.Goals as goal

pub sums-least-requires : goal.sums-least-requires
sums-least-requires c = record {
  few = λ j p. omega (arith, c.least_between-first.ensures.bound j p);
  more = λ j p. omega (arith, c.requires.few c.from.result j (omega arith) (omega arith) p);
}

pub sums-requires : goal.sums-requires
sums-requires c = record {
  few = λ j p. omega (arith, c.least_between-next.ensures.bound j p);
  more = λ j p. omega (arith, c.requires.few c.from-in-loop-to.result j (omega (arith, c.loop-to.auto.to)) (omega arith) p);
}

pub loop-to-init : goal.loop-to-init
loop-to-init c = record {
  value = λ v d j are.
      first_end v d c.args.part c.args.at are.channel (λ k. entry_of c.args.after.now k j) c.from.result (slice_index c.least_between-first.result j) (slice_index c.sums-least.result j) c.requires.at (omega arith) (c.least_between-first.ensures.value v d j are) (c.sums-least.ensures j are.column);
  bound = λ j p.
      omega (arith, c.sums-least.ensures j p, c.least_between-first.ensures.bound j p, c.requires.few c.from.result j (omega arith) (omega arith) p);
}

pub loop-to-preserved : goal.loop-to-preserved
loop-to-preserved c = record {
  value = λ v d j are.
      next_end v d c.args.part c.args.at are.channel (λ k. entry_of c.args.after.now k j) c.loop-to.to c.from-in-loop-to.result (slice_index c.loop-to.least j) (slice_index c.least_between-next.result j) (slice_index c.sums.result j) (slice_index c.lesser-least.result j) (omega (arith, c.loop-to.auto.to)) (omega arith) (omega arith) (c.loop-to.invariant.value v d j are) (c.least_between-next.ensures.value v d j are) (c.sums.ensures j are.column) (c.lesser-least.ensures j are.column);
  bound = λ j p. omega (arith, c.lesser-least.ensures j p, c.loop-to.invariant.bound j p);
}

pub returns-clause-value : goal.returns-clause-value
returns-clause-value c v d j are =
    let e : c.loop-to.to ≡ 7 = omega (arith, c.loop-to-test.false) in
    subst (λ n. IsLeastOn v d c.args.part c.args.at n (λ k. entry_of c.args.after.now k j) (slice_index c.loop-to.least j)) e (c.loop-to.invariant.value v d j are)
