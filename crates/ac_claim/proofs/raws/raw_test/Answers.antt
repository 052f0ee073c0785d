use Rattle.std.proofs.Common.{◌<◌, [], slice_index_or, ap, ◌∙◌, arith}
use Rattle.std.proofs.lemmas.Result.{err_from_is_err_and}
use Rattle.ac_base.specs.declared.spans.Span.{Span}
use Rattle.ac_expo.specs.Raw.{channels}
use Rattle.ac_claim.specs.Tests.{blocks_no, result_of}
use Rattle.ac_claim.proofs.Answering.{stops, goes}
use Rattle.ac_claim.proofs.Firsts.{first-zero}
use Rattle.ac_claim.proofs.Looping.{raw_at}
use Rattle.ac_claim.proofs.raws.raw_test.Goals as goal

pub loop-channel-init : goal.loop-channel-init
loop-channel-init c = record { few = omega arith; none = first-zero (raw_at c.args.shape.now c.args.raw.now.e) }

pub returns-in_err-blocks_test : goal.returns-in_err-blocks_test
returns-in_err-blocks_test c =
    let i = c.loop-channel.channel in
    let p = err_from_is_err_and c.from_residual.result c.from_residual.ensures.1 in
    let inside : i < channels c.args.shape.now = omega (arith, c.loop-channel-test.true, c.coded-channel-end.ensures.value) in
    rw (p.1, p.2) (stops (channels c.args.shape.now) i (raw_at c.args.shape.now c.args.raw.now.e) c.in_err-blocks_test.field-0.0 inside c.loop-channel.invariant.none (c.in_err-blocks_test.ensures ∙ ap (λ (s : Span). result_of (blocks_no s (slice_index_or c.args.raw.now.e i []) i)) c.span-bins.ensures.value))

pub loop-channel-preserved : goal.loop-channel-preserved
loop-channel-preserved c =
    let i = c.loop-channel.channel in
    let inside : i < channels c.args.shape.now = omega (arith, c.loop-channel-test.true, c.coded-channel-end.ensures.value) in
    record { few = omega (arith, inside); none = goes i (raw_at c.args.shape.now c.args.raw.now.e) c.in_ok-blocks_test.field-0 c.loop-channel.invariant.none (c.in_ok-blocks_test.ensures ∙ ap (λ (s : Span). result_of (blocks_no s (slice_index_or c.args.raw.now.e i []) i)) c.span-bins.ensures.value) }
