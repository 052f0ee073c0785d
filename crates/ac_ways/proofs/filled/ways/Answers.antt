use Rattle.std.proofs.Common.{◌≡◌, ◌<◌, length, length-set, ap, ◌∙◌, sym, arith}
use Rattle.ac_base.specs.declared.spans.Span.{Span}
use Rattle.ac_base.specs.Fit.{exponent_bits}
use Rattle.ac_base.specs.Spans.{greatest_kind}
use Rattle.ac_expo.specs.Raw.{channels, channel_span}
use Rattle.ac_bound.specs.Steps.{kinds_of}
use Rattle.ac_ways.proofs.Filling.{ways_more, few_more}
use Rattle.ac_ways.proofs.filled.ways.Goals as goal

pub loop-c-preserved : goal.loop-c-preserved
loop-c-preserved c =
    let shape = c.args.shape.now in
    let so = c.loop-c.invariant in
    let p = c.loop-c.out.p in
    let new = c.channel_ways.new.out in
    let place = c.from-c.result in
    let e : place ≡ c.loop-c.c = c.from-c.ensures in
    let coded : place < channels shape = omega (arith, e, c.loop-c-test.true, c.coded-c-end.ensures.value) in
    let inside : place < length p = omega (arith, e, so.long, c.loop-c-test.true, c.coded-c-end.ensures.bound) in
    let kinds = c.of-kinds.result in
    let span = c.span.ensures.value ∙ ap (channel_span shape) (sym e) in
    let count : kinds.count ≡ kinds_of shape place = c.of-kinds.ensures.count ∙ ap (λ (s : Span). greatest_kind s.lead) span in
    record {
      long = length-set p place new ∙ so.long;
      value = λ raw t0 window d part at j l m h k.
          ways_more p new place inside shape raw t0 c.args.window.now.six kinds coded count (λ kind some taken. c.of-kinds.ensures.bits kind some taken ∙ ap (exponent_bits kind) span) c.channel_ways.ensures.value window (λ d part at j l m h k. so.value raw t0 window d part at j (omega (arith, l, e)) m h k) d part at j (omega (arith, l, e)) m h k;
      bound = λ d part at j l m h k.
          few_more p new place inside c.channel_ways.ensures.few (λ d part at j l m h k. so.bound d part at j (omega (arith, l, e)) m h k) d part at j (omega (arith, l, e)) m h k;
    }

pub returns : goal.returns
returns c =
    let so = c.loop-c.invariant in
    let stop = c.loop-c-test.false in
    let coded = c.coded-c-end.ensures.value in
    record {
      value = λ raw t0 window j k d part at l m h. so.value raw t0 window d part at j (omega (arith, l, stop, coded)) m h k;
      bound = λ d part at j l m h k. so.bound d part at j (omega (arith, l, stop, coded)) m h k;
    }
