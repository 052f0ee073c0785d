use Rattle.std.proofs.Common.{◌<◌, ◌-◌, arith}
use Rattle.std.proofs.lemmas.Result.{err_from_is_err_and}
use Rattle.ac_bound.specs.Ways.{potential}
use Rattle.ac_claim.proofs.Answering.{stops, goes}
use Rattle.ac_claim.proofs.Firsts.{first-zero}
use Rattle.ac_claim.proofs.Looping.{end_at}
use Rattle.ac_claim.proofs.potentials.ends_test.Goals as goal

pub loop-longer-init : goal.loop-longer-init
loop-longer-init c = record { few = omega arith; none = first-zero (end_at c.args.basis.now.table.now (potential c.args.basis.now.pots.now.p) c.args.c c.args.part c.args.from) }

pub returns-in_err-kinds_test : goal.returns-in_err-kinds_test
returns-in_err-kinds_test c =
    let i = c.loop-longer.longer in
    let p = err_from_is_err_and c.from_residual.result c.from_residual.ensures.1 in
    let inside : i < 6 - c.args.from = omega (arith, c.loop-longer-test.true) in
    rw (p.1, p.2) (stops (6 - c.args.from) i (end_at c.args.basis.now.table.now (potential c.args.basis.now.pots.now.p) c.args.c c.args.part c.args.from) c.in_err-kinds_test.field-0.0 inside c.loop-longer.invariant.none (c.in_err-kinds_test.ensures))

pub loop-longer-preserved : goal.loop-longer-preserved
loop-longer-preserved c =
    let i = c.loop-longer.longer in
    let inside : i < 6 - c.args.from = omega (arith, c.loop-longer-test.true) in
    record { few = omega (arith, inside); none = goes i (end_at c.args.basis.now.table.now (potential c.args.basis.now.pots.now.p) c.args.c c.args.part c.args.from) c.in_ok-kinds_test.field-0 c.loop-longer.invariant.none (c.in_ok-kinds_test.ensures) }
