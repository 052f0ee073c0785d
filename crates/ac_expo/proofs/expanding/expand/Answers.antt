use Rattle.std.proofs.Common.{◌-◌, ◌*◌, arith, ap, ◌∙◌}
use Rattle.ac_expo.specs.Steps.{step_of}
use Rattle.ac_expo.specs.Groups.{NoneRefused}
use Rattle.ac_expo.proofs.Walk.{walk}
use Rattle.ac_expo.proofs.Refusals.{within_all, expanded_spellable}
use Rattle.ac_expo.proofs.expanding.expand.Goals as goal

pub write-requires-clause-within : goal.write-requires-clause-within
write-requires-clause-within c = λ k inside.
    let kind = c.args.kind in
    let span = c.args.span.now in
    let spelled = c.args.spelled.now in
    let none : NoneRefused kind span spelled = c.in-None.ensures in
    let w = within_all kind span spelled c.requires.span c.requires.kind c.requires.count c.requires.first none k inside in
    let at = (walk kind span c.requires.span c.requires.kind).0.within k inside.0 inside.1 in
    let e = c.sums_of-sums.ensures (step_of kind span k) (omega (arith, c.requires.count)) in
    (omega arith, omega arith)

pub returns-in-None-clause-value : goal.returns-in-None-clause-value
returns-in-None-clause-value c = λ k inside.
    let kind = c.args.kind in
    let span = c.args.span.now in
    let at = (walk kind span c.requires.span c.requires.kind).0.within k inside.0 inside.1 in
    let e = c.sums_of-sums.ensures (step_of kind span k) (omega (arith, c.requires.count)) in
    c.write.ensures.value k inside ∙ ap (λ n. n - 2 * step_of kind span k) e

pub returns-in-None-clause-spellable : goal.returns-in-None-clause-spellable
returns-in-None-clause-spellable c =
    let kind = c.args.kind in
    let span = c.args.span.now in
    let spelled = c.args.spelled.now in
    let none : NoneRefused kind span spelled = c.in-None.ensures in
    expanded_spellable kind span spelled c.write.new.out c.requires.span c.requires.kind c.requires.count c.requires.first none (returns-in-None-clause-value c)
