use Rattle.std.proofs.Common.{◌<◌, arith}
use Rattle.std.proofs.lemmas.Result.{err_from_is_err_and}
use Rattle.ac_bound.specs.Ways.{potential}
use Rattle.ac_claim.specs.Potentials.{ends_no}
use Rattle.ac_claim.proofs.Answering.{stops, goes}
use Rattle.ac_claim.proofs.Firsts.{first-zero}
use Rattle.ac_claim.proofs.potentials.starts_test.Goals as goal

pub loop-from-init : goal.loop-from-init
loop-from-init c = record { few = omega arith; none = first-zero (ends_no c.args.basis.now.table.now (potential c.args.basis.now.pots.now.p) c.args.c c.args.part) }

pub returns-in_err-ends_test : goal.returns-in_err-ends_test
returns-in_err-ends_test c =
    let i = c.loop-from.from in
    let p = err_from_is_err_and c.from_residual.result c.from_residual.ensures.1 in
    let inside : i < 6 = omega (arith, c.loop-from-test.true) in
    rw (p.1, p.2) (stops (6) i (ends_no c.args.basis.now.table.now (potential c.args.basis.now.pots.now.p) c.args.c c.args.part) c.in_err-ends_test.field-0.0 inside c.loop-from.invariant.none (c.in_err-ends_test.ensures))

pub loop-from-preserved : goal.loop-from-preserved
loop-from-preserved c =
    let i = c.loop-from.from in
    let inside : i < 6 = omega (arith, c.loop-from-test.true) in
    record { few = omega (arith, inside); none = goes i (ends_no c.args.basis.now.table.now (potential c.args.basis.now.pots.now.p) c.args.c c.args.part) c.in_ok-ends_test.field-0 c.loop-from.invariant.none (c.in_ok-ends_test.ensures) }
