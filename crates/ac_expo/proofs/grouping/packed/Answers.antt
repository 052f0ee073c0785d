use Rattle.std.proofs.Common.{◌+◌, ◌*◌, arith}
use Rattle.ac_expo.proofs.Places.{placed, near_next, at_small}
use Rattle.ac_expo.proofs.grouping.packed.Goals as goal

pub difference-requires-clause-small : goal.difference-requires-clause-small
difference-requires-clause-small c =
    let a = c.args in
    let p = placed a.kind a.span.now a.exps.now c.requires.span c.requires.kind c.requires.can in
    omega (arith, c.exponent-first.ensures, at_small a.kind a.span.now a.exps.now c.requires.span p (3 * a.place + 1))

pub difference-requires-clause-up : goal.difference-requires-clause-up
difference-requires-clause-up c =
    let a = c.args in
    let p = placed a.kind a.span.now a.exps.now c.requires.span c.requires.kind c.requires.can in
    omega (arith, c.exponent-first.ensures, c.requires.before, (near_next a.kind a.span.now a.exps.now c.requires.span p (3 * a.place) (3 * a.place + 1) (omega arith)).0)

pub difference-requires-clause-down : goal.difference-requires-clause-down
difference-requires-clause-down c =
    let a = c.args in
    let p = placed a.kind a.span.now a.exps.now c.requires.span c.requires.kind c.requires.can in
    omega (arith, c.exponent-first.ensures, c.requires.before, (near_next a.kind a.span.now a.exps.now c.requires.span p (3 * a.place) (3 * a.place + 1) (omega arith)).1)

pub difference-requires-2-clause-small : goal.difference-requires-2-clause-small
difference-requires-2-clause-small c =
    let a = c.args in
    let p = placed a.kind a.span.now a.exps.now c.requires.span c.requires.kind c.requires.can in
    omega (arith, c.exponent-second.ensures, at_small a.kind a.span.now a.exps.now c.requires.span p (3 * a.place + 2))

pub difference-requires-2-clause-up : goal.difference-requires-2-clause-up
difference-requires-2-clause-up c =
    let a = c.args in
    let p = placed a.kind a.span.now a.exps.now c.requires.span c.requires.kind c.requires.can in
    omega (arith, c.exponent-second.ensures, c.exponent-first.ensures, (near_next a.kind a.span.now a.exps.now c.requires.span p (3 * a.place + 1) (3 * a.place + 2) (omega arith)).0)

pub difference-requires-2-clause-down : goal.difference-requires-2-clause-down
difference-requires-2-clause-down c =
    let a = c.args in
    let p = placed a.kind a.span.now a.exps.now c.requires.span c.requires.kind c.requires.can in
    omega (arith, c.exponent-second.ensures, c.exponent-first.ensures, (near_next a.kind a.span.now a.exps.now c.requires.span p (3 * a.place + 1) (3 * a.place + 2) (omega arith)).1)

pub difference-requires-3-clause-small : goal.difference-requires-3-clause-small
difference-requires-3-clause-small c =
    let a = c.args in
    let p = placed a.kind a.span.now a.exps.now c.requires.span c.requires.kind c.requires.can in
    omega (arith, c.exponent-third.ensures, at_small a.kind a.span.now a.exps.now c.requires.span p (3 * a.place + 3))

pub difference-requires-3-clause-up : goal.difference-requires-3-clause-up
difference-requires-3-clause-up c =
    let a = c.args in
    let p = placed a.kind a.span.now a.exps.now c.requires.span c.requires.kind c.requires.can in
    omega (arith, c.exponent-third.ensures, c.exponent-second.ensures, (near_next a.kind a.span.now a.exps.now c.requires.span p (3 * a.place + 2) (3 * a.place + 3) (omega arith)).0)

pub difference-requires-3-clause-down : goal.difference-requires-3-clause-down
difference-requires-3-clause-down c =
    let a = c.args in
    let p = placed a.kind a.span.now a.exps.now c.requires.span c.requires.kind c.requires.can in
    omega (arith, c.exponent-third.ensures, c.exponent-second.ensures, (near_next a.kind a.span.now a.exps.now c.requires.span p (3 * a.place + 2) (3 * a.place + 3) (omega arith)).1)
