use Rattle.std.proofs.Common.{◌≡◌, ◌+◌, ◌-◌, ◌≤◌, refl, subst, arith}
use Rattle.ac_bound.proofs.Offsets.{below_root}
use Rattle.ac_plan.specs.Best.{NoneFitsAbove}
use Rattle.ac_plan.proofs.Passing.{none_down}
use Rattle.ac_plan.proofs.Plans.{best_lawful, held_down}
use Rattle.ac_plan.proofs.Uniforms.{assignment}
use Rattle.ac_plan.proofs.search.descend_one.Goals as goal

pub loop-t-init : goal.loop-t-init
loop-t-init c =
    let shape = c.args.shape.now in
    let raw = c.args.rows.now.raw in
    record {
      within = omega arith;
      none = λ t l m f. absurd (omega (arith, below_root shape raw c.args.root t c.requires.root m f, l));
      held = c.requires.held;
    }

pub loop-t-preserved : goal.loop-t-preserved
loop-t-preserved c =
    let shape = c.args.shape.now in
    let raw = c.args.rows.now.raw in
    let t = c.loop-t.t in
    let inv = c.loop-t.invariant in
    let e : t - 1 + 1 ≡ t = omega (arith, c.loop-t-test.true) in
    record {
      within = omega (arith, inv.within);
      none = none_down shape raw t (t - 1) e inv.none (c.in_default.ensures.none refl);
      held = held_down shape raw t (t - 1) c.find_one.new.held (omega arith) c.in_default.ensures.held;
    }

pub returns-in-Some-clause-lawful : goal.returns-in-Some-clause-lawful
returns-in-Some-clause-lawful c =
    let shape = c.args.shape.now in
    let raw = c.args.rows.now.raw in
    let t = c.loop-t.t in
    let low : t ≤ 1023 = omega (arith, c.loop-t.invariant.within, c.requires.root.within) in
    best_lawful shape raw c.args.nodes t c.best.result c.in-Some.assign.w low c.in-Some.ensures.assignment c.in-Some.ensures.fits c.loop-t.invariant.none c.best.ensures.offset c.best.ensures.words c.best.ensures.mark

pub returns-clause-lawful : goal.returns-clause-lawful
returns-clause-lawful c =
    let shape = c.args.shape.now in
    let raw = c.args.rows.now.raw in
    let none : c.loop-t.t ≡ 0 = omega (arith, c.loop-t-test.false) in
    let above = subst (NoneFitsAbove shape raw) none c.loop-t.invariant.none in
    best_lawful shape raw c.args.nodes 0 c.best-2.result c.cheapest.result.w (omega arith) (assignment shape c.cheapest.result.w c.cheapest.ensures.uniform) (c.cheapest.ensures.fits raw c.requires.cheapest) above c.best-2.ensures.offset c.best-2.ensures.words c.best-2.ensures.mark
