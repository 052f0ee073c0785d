use Rattle.std.proofs.Common.{◌≡◌, arith}
use Rattle.ac_expo.specs.Steps.{step_of}
use Rattle.ac_expo.proofs.Walk.{range, walk, start_before_end}
use Rattle.ac_expo.proofs.steps.step.Goals as goal

pub quotient-requires : goal.quotient-requires
quotient-requires c =
    let s = c.args.span.now in
    let b = start_before_end s.lead s.start s.end (range s c.requires.span) in
    record { kind = c.requires.kind; within = c.requires.within; end = b.1 }

pub returns : goal.returns
returns c =
    let w = walk c.args.kind c.args.span.now c.requires.span c.requires.kind in
    let q = w.0.within c.args.bin c.requires.within.0 c.requires.within.1 in
    let e : c.quotient.result ≡ step_of c.args.kind c.args.span.now c.args.bin = c.quotient.ensures in
    record { value = e; bound = omega (arith, q, e); small = omega (arith, q, e, w.1) }
