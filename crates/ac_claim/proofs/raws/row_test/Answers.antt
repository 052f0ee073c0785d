use Rattle.std.proofs.Common.{◌<◌, ◌-◌, arith}
use Rattle.std.proofs.lemmas.Result.{err_from_is_err_and}
use Rattle.ac_claim.proofs.Answering.{stops, goes}
use Rattle.ac_claim.proofs.Firsts.{first-zero}
use Rattle.ac_claim.proofs.Looping.{bin_at}
use Rattle.ac_claim.proofs.raws.row_test.Goals as goal

pub loop-i-init : goal.loop-i-init
loop-i-init c = record { few = omega arith; none = first-zero (bin_at c.args.span.now c.args.row.now c.args.channel c.args.block) }

pub returns-in_err-bin_test : goal.returns-in_err-bin_test
returns-in_err-bin_test c =
    let i = c.loop-i.i in
    let p = err_from_is_err_and c.from_residual.result c.from_residual.ensures.1 in
    let inside : i < c.args.span.now.end - c.args.span.now.start = omega (arith, c.loop-i-test.true) in
    rw (p.1, p.2) (stops (c.args.span.now.end - c.args.span.now.start) i (bin_at c.args.span.now c.args.row.now c.args.channel c.args.block) c.in_err-bin_test.field-0.0 inside c.loop-i.invariant.none (c.in_err-bin_test.ensures))

pub loop-i-preserved : goal.loop-i-preserved
loop-i-preserved c =
    let i = c.loop-i.i in
    let inside : i < c.args.span.now.end - c.args.span.now.start = omega (arith, c.loop-i-test.true) in
    record { few = omega (arith, inside); none = goes i (bin_at c.args.span.now c.args.row.now c.args.channel c.args.block) c.in_ok-bin_test.field-0 c.loop-i.invariant.none (c.in_ok-bin_test.ensures) }
