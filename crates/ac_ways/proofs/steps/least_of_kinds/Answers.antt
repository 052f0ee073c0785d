use Rattle.std.proofs.Common.{◌≡◌, ◌+◌, slice_index, subst, arith}
use Rattle.ac_bound.specs.Steps.{kinds_of, IsLeastBetween}
use Rattle.ac_ways.proofs.Ranges.{first_kind, next_kind}
use Rattle.ac_ways.proofs.steps.least_of_kinds.Goals as goal

pub loop-kind-init : goal.loop-kind-init
loop-kind-init c = record {
  value = λ v d j are. first_kind v d c.args.part c.args.from c.args.to (slice_index c.run_costs-least.result j) (c.run_costs-least.ensures.value v d j are);
  bound = c.run_costs-least.ensures.bound;
}

pub loop-kind-preserved : goal.loop-kind-preserved
loop-kind-preserved c = record {
  value = λ v d j are.
      next_kind v d c.args.part c.args.from c.args.to c.loop-kind.kind (slice_index c.loop-kind.least j) (slice_index c.run_costs-next.result j) (slice_index c.lesser-least.result j) (omega (arith, c.loop-kind.auto.kind)) (c.loop-kind.invariant.value v d j are) (c.run_costs-next.ensures.value v d j are) (c.lesser-least.ensures j are.column);
  bound = λ j l. omega (arith, c.lesser-least.ensures j l, c.loop-kind.invariant.bound j l);
}

pub returns-clause-value : goal.returns-clause-value
returns-clause-value c v d j are =
    let e : c.loop-kind.kind ≡ kinds_of v.shape d + 1 = omega (arith, are.count, c.loop-kind-test.false) in
    subst (λ n. IsLeastBetween v d c.args.part c.args.from c.args.to n (slice_index c.loop-kind.least j)) e (c.loop-kind.invariant.value v d j are)
