use Rattle.std.proofs.Common.{slice_index, ap, ◌∙◌, arith}
use Rattle.ac_base.specs.Fit.{exponent_bits}
use Rattle.ac_base.specs.Words.{word_of}
use Rattle.ac_expo.specs.Raw.{channel_span}
use Rattle.ac_cost.proofs.Summing.{exponents-none, exponents-more}
use Rattle.ac_cost.proofs.parts.block_exponents.Goals as goal

pub loop-c-init : goal.loop-c-init
loop-c-init c = record { value = exponents-none (channel_span c.args.shape.now) c.args.codes.now c.args.block; bound = omega arith }

pub loop-c-preserved : goal.loop-c-preserved
loop-c-preserved c =
    let n = c.loop-c.c in
    let codes = c.args.codes.now in
    let more = exponents-more (channel_span c.args.shape.now) n codes c.args.block in
    let here = c.exponent_bits-bits.ensures.value ∙ ap (exponent_bits (slice_index (word_of codes n) c.args.block)) c.span.ensures.value in
    record { value = omega (arith, c.loop-c.invariant.value, here, more); bound = omega (arith, c.loop-c.invariant.bound, c.exponent_bits-bits.ensures.bound) }
