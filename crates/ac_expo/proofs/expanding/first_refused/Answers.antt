use Rattle.std.proofs.Common.{◌-◌, ◌*◌, ap, arith, below_more, ◌∙◌}
use Rattle.std.specs.Prelude.{IsTrue}
use Rattle.ac_expo.specs.Steps.{step_of}
use Rattle.ac_expo.proofs.Summed.{bad_group}
use Rattle.ac_expo.proofs.expanding.first_refused.Goals as goal

pub returns-then-is_bad_group : goal.returns-then-is_bad_group
returns-then-is_bad_group c =
    let a = c.args in
    let r = c.requires in
    let last = c.step-last.ensures.value ∙ ap (λ n. step_of a.kind a.span.now (n - 1)) c.from.ensures in
    let at = ap (λ n. 3 * n) c.from-in-loop-place.ensures in
    let tests = bad_group a.kind a.span.now a.spelled.now a.sums.now _ c.loop-place.place _ _ r.span r.kind last r.count (omega (arith, c.loop-place-test.true, c.len-place-end.ensures.value)) r.sums c.group_at.ensures at in
    record {
      within = omega (arith, c.loop-place-test.true, c.len-place-end.ensures.value);
      refused = tests.0 (c.is_bad_group.ensures.0 c.if-is_bad_group.true);
      first = c.loop-place.invariant;
    }

pub loop-place-preserved : goal.loop-place-preserved
loop-place-preserved c =
    let a = c.args in
    let r = c.requires in
    let last = c.step-last.ensures.value ∙ ap (λ n. step_of a.kind a.span.now (n - 1)) c.from.ensures in
    let at = ap (λ n. 3 * n) c.from-in-loop-place.ensures in
    let tests = bad_group a.kind a.span.now a.spelled.now a.sums.now _ c.loop-place.place _ _ r.span r.kind last r.count (omega (arith, c.loop-place-test.true, c.len-place-end.ensures.value)) r.sums c.group_at.ensures at in
    below_more _ _ c.loop-place.invariant (λ refused. let t : IsTrue c.is_bad_group.result = c.is_bad_group.ensures.1 (tests.1 refused) in let f = c.if-is_bad_group.false in cc)

pub returns : goal.returns
returns c = λ place within. c.loop-place.invariant place (omega (arith, c.loop-place-test.false, c.len-place-end.ensures.value))
