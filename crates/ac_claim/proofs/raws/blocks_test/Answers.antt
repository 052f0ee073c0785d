use Rattle.std.proofs.Common.{◌<◌, arith}
use Rattle.std.proofs.lemmas.Result.{err_from_is_err_and}
use Rattle.ac_claim.proofs.Answering.{stops, goes}
use Rattle.ac_claim.proofs.Firsts.{first-zero}
use Rattle.ac_claim.proofs.Looping.{block_at}
use Rattle.ac_claim.proofs.raws.blocks_test.Goals as goal

pub loop-block-init : goal.loop-block-init
loop-block-init c = record { few = omega arith; none = first-zero (block_at c.args.span.now c.args.rows.now c.args.channel) }

pub returns-in_err-row_test : goal.returns-in_err-row_test
returns-in_err-row_test c =
    let i = c.loop-block.block in
    let p = err_from_is_err_and c.from_residual.result c.from_residual.ensures.1 in
    let inside : i < 6 = omega (arith, c.loop-block-test.true) in
    rw (p.1, p.2) (stops (6) i (block_at c.args.span.now c.args.rows.now c.args.channel) c.in_err-row_test.field-0.0 inside c.loop-block.invariant.none (c.in_err-row_test.ensures))

pub loop-block-preserved : goal.loop-block-preserved
loop-block-preserved c =
    let i = c.loop-block.block in
    let inside : i < 6 = omega (arith, c.loop-block-test.true) in
    record { few = omega (arith, inside); none = goes i (block_at c.args.span.now c.args.rows.now c.args.channel) c.in_ok-row_test.field-0 c.loop-block.invariant.none (c.in_ok-row_test.ensures) }
