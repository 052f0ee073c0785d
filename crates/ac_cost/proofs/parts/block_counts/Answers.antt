use Rattle.std.proofs.Common.{◌<◌, sym, ap, subst, arith}
use Rattle.ac_base.specs.declared.runs.Run.{Run}
use Rattle.ac_base.specs.declared.shapes.Shape.{Shape}
use Rattle.ac_expo.specs.Raw.{channels, channel_span}
use Rattle.ac_cost.specs.Pointers.{pointers}
use Rattle.ac_cost.specs.Runs.{IsRunOf, IsAssignmentOf}
use Rattle.ac_cost.proofs.Assigning.{run-of}
use Rattle.ac_cost.proofs.Bounding.{channels_none}
use Rattle.ac_cost.proofs.Summing.{counts-more, counts-few}
use Rattle.ac_cost.proofs.parts.block_counts.Goals as goal

pub loop-c-init : goal.loop-c-init
loop-c-init g c =
    let v = g.C.RunCosts.offset c.args.costs.now in
    record {
      value = sym (channels_none (channel_span v.shape) (λ d. pointers v.shape v.raw v.t c.args.a.now.w d c.args.block));
      bound = (omega arith, omega arith, omega arith, omega arith);
    }

pub run_counts-requires : goal.run_counts-requires
run_counts-requires g c =
    let v = g.C.RunCosts.offset c.args.costs.now in
    let count = ap channels c.requires.same in
    let below : c.loop-c.c < channels v.shape = omega (arith, c.loop-c-test.true, c.coded-c-end.ensures.value, count) in
    let assign = subst (λ (s : Shape). IsAssignmentOf s c.args.a.now.w) (sym c.requires.same) c.requires.assign in
    subst (λ (r : Run). IsRunOf v.shape c.loop-c.c r) (sym c.run_in.ensures) (run-of v.shape c.args.a.now.w c.loop-c.c c.args.block assign below (omega (arith, c.requires.block)))

pub loop-c-preserved : goal.loop-c-preserved
loop-c-preserved g c = record {
  value = counts-more (g.C.RunCosts.offset c.args.costs.now) c.args.a.now.w c.args.block c.loop-c.c c.run_in.result c.loop-c.counts c.run_counts.result c.join-counts.result c.run_in.ensures c.loop-c.invariant.value c.run_counts.ensures.value c.join-counts.ensures;
  bound = counts-few c.loop-c.c c.loop-c.counts c.run_counts.result c.join-counts.result c.loop-c.invariant.bound c.run_counts.ensures.bound c.join-counts.ensures;
}
