use Rattle.std.proofs.Common.{◌<◌, sym, ap, ap₂, ◌∙◌, arith}
use Rattle.ac_base.specs.declared.spans.Span.{Span}
use Rattle.ac_base.specs.Fit.{exponent_bits}
use Rattle.ac_base.specs.Spans.{greatest_kind}
use Rattle.ac_expo.specs.Raw.{channels, channel_span}
use Rattle.ac_cost.specs.Parts.{cheapest_assign}
use Rattle.ac_cost.proofs.Fewest.{cheap-code}
use Rattle.ac_cost.proofs.Summing.{exponents-none, exponents-more}
use Rattle.ac_cost.proofs.least.fewest_exponents.Goals as goal

pub loop-c-init : goal.loop-c-init
loop-c-init c = record { value = exponents-none (channel_span c.args.shape.now) (cheapest_assign c.args.shape.now) 0; bound = omega arith }

pub loop-c-preserved : goal.loop-c-preserved
loop-c-preserved c =
    let shape = c.args.shape.now in
    let n = c.loop-c.c in
    let below : n < channels shape = omega (arith, c.loop-c-test.true, c.coded-c-end.ensures.value) in
    let more = exponents-more (channel_span shape) n (cheapest_assign shape) 0 in
    let code = c.coarsest.ensures ∙ ap (λ (s : Span). greatest_kind s.lead) c.span-span.ensures.value ∙ sym (cheap-code shape n below) in
    let here = c.exponent_bits-bits.ensures.value ∙ ap₂ exponent_bits code c.span-span.ensures.value in
    record { value = omega (arith, c.loop-c.invariant.value, here, more); bound = omega (arith, c.loop-c.invariant.bound, c.exponent_bits-bits.ensures.bound) }
