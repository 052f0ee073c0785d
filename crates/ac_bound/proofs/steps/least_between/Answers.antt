use Rattle.std.proofs.Common.{arith}
use Rattle.ac_expo.specs.Raw.{channel_span}
use Rattle.ac_bound.proofs.Leasts.{between-is, kinds-least}
use Rattle.ac_bound.proofs.Rows.{first_kind, next_kind}
use Rattle.ac_bound.proofs.steps.least_between.Goals as goal

pub run_sixths-least-requires : goal.run_sixths-least-requires
run_sixths-least-requires c =
    let shape = c.args.table.now.shape in
    between-is shape c.args.c c.args.from c.args.to 1 c.requires.channel c.requires.order c.requires.end (omega arith) (kinds-least (channel_span shape c.args.c).lead)

pub run_sixths-requires : goal.run_sixths-requires
run_sixths-requires c =
    between-is c.args.table.now.shape c.args.c c.args.from c.args.to c.loop-kind.kind c.requires.channel c.requires.order c.requires.end (omega (arith, c.loop-kind.auto.kind)) (omega (arith, c.requires.kinds, c.loop-kind-test.true))

pub loop-kind-init : goal.loop-kind-init
loop-kind-init c = record {
  value = first_kind c.args.table.now c.args.c c.args.from c.args.to c.run_sixths-least.result c.run_sixths-least.ensures.value;
  bound = λ part p. c.run_sixths-least.ensures.bound part;
}

pub loop-kind-preserved : goal.loop-kind-preserved
loop-kind-preserved c = record {
  value = next_kind c.args.table.now c.args.c c.args.from c.args.to c.loop-kind.kind c.run_sixths.result c.loop-kind.least c.lesser-least.result (omega (arith, c.loop-kind.auto.kind)) c.run_sixths.ensures.value c.loop-kind.invariant.value c.lesser-least.ensures;
  bound = λ part p. omega (arith, c.lesser-least.ensures part p, c.loop-kind.invariant.bound part p);
}
