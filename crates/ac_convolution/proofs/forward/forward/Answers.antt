use Rattle.std.proofs.Common.{◌≡◌, ◌+◌, ◌-◌, ◌^◌, ◌+ℤ◌, ◌-ℤ◌, arith, ◌∙◌, ap, ap₂}
use Rattle.ac_convolution.specs.Negacyclic.{items}
use Rattle.ac_convolution.specs.Transform.{spread_of, forward_of, parts_of}
use Rattle.ac_convolution.proofs.Halves.{forward_low, forward_high}
use Rattle.ac_convolution.proofs.Karatsuba.{parts_same}
use Rattle.ac_convolution.proofs.More.{rows_more}
use Rattle.ac_convolution.proofs.forward.forward.Goals as goal

pub loop-e-preserved : goal.loop-e-preserved
loop-e-preserved c =
    let g = items c.args.g.now in
    let e = c.loop-e.e in
    rows_more 32 24 (2 ^ 29) e (λ e. parts_of (forward_of (spread_of g) e)) c.loop-e.out c.parts.result (omega arith) c.loop-e.invariant
    (λ n below.
    c.parts.ensures.value n below
    ∙ parts_same (items c.plus.result) (forward_of (spread_of g) e)
    (λ s within.
    c.plus.ensures.value s within
    ∙ ap₂ ◌+ℤ◌ (c.halves.ensures.value e (omega arith) s within) (c.halves-2.ensures.value e (omega arith) s within)
    ∙ forward_low g c.spread.new.rows c.spread.ensures.value e s within)
    n below)
    c.parts.ensures.bound

pub loop-d-preserved : goal.loop-d-preserved
loop-d-preserved c =
    let g = items c.args.g.now in
    let d = c.loop-d.d in
    let place : d - 16 + 16 ≡ d = omega arith in
    rows_more 32 24 (2 ^ 29) d (λ e. parts_of (forward_of (spread_of g) e)) c.loop-d.out c.parts-in-loop-d.result (omega arith) c.loop-d.invariant
    (λ n below.
    c.parts-in-loop-d.ensures.value n below
    ∙ parts_same (items c.minus.result) (forward_of (spread_of g) d)
    (λ s within.
    c.minus.ensures.value s within
    ∙ ap₂ ◌-ℤ◌ (c.halves.ensures.value (d - 16) (omega arith) s within) (c.halves-2.ensures.value (d - 16) (omega arith) s within)
    ∙ forward_high g c.spread.new.rows c.spread.ensures.value (d - 16) s within
    ∙ ap (λ e. forward_of (spread_of g) e s) place)
    n below)
    c.parts-in-loop-d.ensures.bound
