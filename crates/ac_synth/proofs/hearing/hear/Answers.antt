use Rattle.std.proofs.Common.{arith}
use Rattle.ac_synth.proofs.Steps.{never_refused, two_heard, heard_as}
use Rattle.ac_synth.proofs.hearing.hear.Goals as goal

pub pcm_sum-requires : goal.pcm_sum-requires
pcm_sum-requires c =
    let v = c.in-Ok.ensures.value in
    let two = two_heard c.args.frame.now v.0 c.args.decoder.now c.frame.new.self c.in-Ok.field-0 c.frame.new.out c.requires.frame v.1 in
    λ channel lt. c.in-Ok.ensures.bound channel (omega (arith, lt, two))

pub unreachable-requires : goal.unreachable-requires
unreachable-requires c =
    never_refused c.args.decoder.now c.args.frame.now c.in-Err.field-0 (λ k lt. omega (arith, c.type_inv.frame k)) c.requires.frame c.requires.kind c.in-Err.ensures.cause

pub returns-clause-value : goal.returns-clause-value
returns-clause-value c =
    let v = c.in-Ok.ensures.value in
    let law = c.sound_law.ensures in
    (v.0, v.1.reading, heard_as law.next law.behind law.front c.args.frame.now c.args.decoder.now c.frame.new.self v.0 c.in-Ok.field-0 c.frame.new.out c.pcm_sum.result c.requires.frame v.1 c.pcm_sum.ensures.value)
