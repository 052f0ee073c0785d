use Rattle.std.proofs.Common.{◌≡◌, ◌+◌, ◌-◌, ◌*◌, ◌≤◌, length, take, drop, slice_index, arith, ap, ◌∙◌}
use Rattle.std.proofs.lemmas.List.{length-take-le, get_or_append_left}
use Rattle.ac_expo.specs.Steps.{step_of, last_step}
use Rattle.ac_expo.specs.Least.{spread}
use Rattle.ac_expo.proofs.Walk.{walk}
use Rattle.ac_expo.proofs.Formula.{formula, composed}
use Rattle.ac_expo.proofs.Minima.{small_take}
use Rattle.ac_expo.proofs.lists.greatest.Goals as goal

pub smooth-requires-clause-small : goal.smooth-requires-clause-small
smooth-requires-clause-small c = small_take (3 * c.from.result + 1) c.cap.new.steps (omega arith) c.cap.ensures.bound

pub returns-clause-value : goal.returns-clause-value
returns-clause-value c = λ k inside.
    let span = c.args.span.now in
    let run = c.args.run.now in
    let count = 3 * c.from.result + 1 in
    let caps = c.cap.new.steps in
    let w = walk run.kind span c.requires.span c.requires.kind in
    let g = step_of run.kind span k in
    let within = w.0.within k inside.0 inside.1 in
    let whole : count ≡ last_step run.kind span + 1 = omega (arith, c.groups.ensures.value, c.from.ensures) in
    let room : count ≤ 256 = omega (arith, w.1) in
    let long : length (take count caps) ≡ count = length-take-le count caps (omega arith) in
    let smooth : slice_index c.smooth.new.steps g ≡ spread (count - 1) (slice_index (take count caps)) g =
    c.smooth.ensures g (omega arith) ∙ ap (λ n. spread (n - 1) (slice_index (take count caps)) g) long in
    let left = get_or_append_left c.smooth.new.steps (drop count caps) 0 g (omega (arith, c.smooth.auto.steps)) in
    c.spread_out.ensures.value k inside ∙ left
    ∙ composed run.kind span c.args.raw.now run.from run.to count c.least_of_blocks-bins.result c.least_of_steps-steps.result caps c.smooth.new.steps whole room c.least_of_blocks-bins.ensures c.least_of_steps-steps.ensures.value c.cap.ensures.first c.cap.ensures.rest g smooth

pub returns-clause-greatest : goal.returns-clause-greatest
returns-clause-greatest c =
    formula c.args.run.now.kind c.args.span.now c.args.raw.now c.args.run.now.from c.args.run.now.to c.spread_out.new.out c.requires.span c.requires.kind (returns-clause-value c)
