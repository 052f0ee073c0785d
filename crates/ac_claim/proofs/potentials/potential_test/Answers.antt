use Rattle.std.proofs.Common.{◌<◌, ap, arith}
use Rattle.std.proofs.lemmas.Result.{err_from_is_err_and}
use Rattle.ac_expo.specs.Raw.{channels}
use Rattle.ac_bound.specs.Ways.{potential}
use Rattle.ac_claim.proofs.Answering.{stops, goes}
use Rattle.ac_claim.proofs.Firsts.{first-zero}
use Rattle.ac_claim.proofs.Looping.{channel_at}
use Rattle.ac_claim.proofs.potentials.potential_test.Goals as goal

pub loop-c-init : goal.loop-c-init
loop-c-init c = record { few = omega arith; none = first-zero (channel_at c.args.basis.now.table.now (potential c.args.basis.now.pots.now.p)) }

pub returns-in_err-channel_test : goal.returns-in_err-channel_test
returns-in_err-channel_test c =
    let i = c.loop-c.c in
    let p = err_from_is_err_and c.from_residual.result c.from_residual.ensures.1 in
    let same = ap channels c.requires.basis.same in
    let inside : i < channels c.args.basis.now.table.now.shape = omega (arith, c.loop-c-test.true, c.coded-c-end.ensures.value, same) in
    rw (p.1, p.2) (stops (channels c.args.basis.now.table.now.shape) i (channel_at c.args.basis.now.table.now (potential c.args.basis.now.pots.now.p)) c.in_err-channel_test.field-0.0 inside c.loop-c.invariant.none (c.in_err-channel_test.ensures))

pub loop-c-preserved : goal.loop-c-preserved
loop-c-preserved c =
    let i = c.loop-c.c in
    let same = ap channels c.requires.basis.same in
    let inside : i < channels c.args.basis.now.table.now.shape = omega (arith, c.loop-c-test.true, c.coded-c-end.ensures.value, same) in
    record { few = omega (arith, inside); none = goes i (channel_at c.args.basis.now.table.now (potential c.args.basis.now.pots.now.p)) c.in_ok-channel_test.field-0 c.loop-c.invariant.none (c.in_ok-channel_test.ensures) }
