use Rattle.std.proofs.Common.{◌≡◌, ◌+◌, ◌-◌, ◌≤◌, subst, arith}
use Rattle.ac_bound.proofs.Offsets.{below_root}
use Rattle.ac_plan.specs.Plans.{NoneFitsAbove}
use Rattle.ac_plan.proofs.Passing.{none_down}
use Rattle.ac_plan.proofs.Plans.{spent_none, spent_down, over, best_lawful, uniform_lawful, held_down}
use Rattle.ac_plan.proofs.search.descend.Goals as goal

pub loop-t-init : goal.loop-t-init
loop-t-init c =
    let shape = c.args.shape.now in
    let raw = c.args.rows.now.raw in
    record {
      within = omega arith;
      none = λ t l m f. absurd (omega (arith, below_root shape raw c.args.root t c.requires.root m f, l));
      few = omega arith;
      spent = spent_none shape raw c.args.nodes c.args.root;
      held = c.requires.held;
    }

pub returns-in-Fits : goal.returns-in-Fits
returns-in-Fits c =
    let shape = c.args.shape.now in
    let raw = c.args.rows.now.raw in
    let t = c.loop-t.t in
    let words = c.in-Fits.assign.w in
    let found = c.in-Fits.ensures.value in
    let low : t ≤ 1023 = omega (arith, c.loop-t.invariant.within, c.requires.root.within) in
    record { lawful = best_lawful shape raw c.args.nodes t c.best.result words low found.0 found.1 c.loop-t.invariant.none c.best.ensures.offset c.best.ensures.words c.best.ensures.mark }

pub returns-in-Spent : goal.returns-in-Spent
returns-in-Spent c =
    let shape = c.args.shape.now in
    let raw = c.args.rows.now.raw in
    let t = c.loop-t.t in
    let left = c.loop-t.left in
    let r = c.args.root in
    let inv = c.loop-t.invariant in
    let size = c.in-Spent.ensures.value in
    let more = over shape raw c.args.nodes r t left size.0 inv.within size.1 size.2 inv.spent in
    record { lawful = uniform_lawful shape raw c.args.nodes r t c.requires.several c.requires.root inv.within inv.none c.uniform_plan.result (λ l. more) c.uniform_plan.ensures }

pub loop-t-preserved : goal.loop-t-preserved
loop-t-preserved c =
    let shape = c.args.shape.now in
    let raw = c.args.rows.now.raw in
    let t = c.loop-t.t in
    let left = c.loop-t.left in
    let used = c.in-Never.used in
    let inv = c.loop-t.invariant in
    let never = c.in-Never.ensures.value in
    let e : t - 1 + 1 ≡ t = omega (arith, c.loop-t-test.true) in
    record {
      within = omega (arith, inv.within);
      none = none_down shape raw t (t - 1) e inv.none never.0;
      few = omega (arith, inv.few);
      spent = spent_down shape raw c.args.nodes c.args.root t (t - 1) left used e inv.within never.2 never.1 inv.spent;
      held = held_down shape raw t (t - 1) c.seek_at.new.held (omega arith) c.in-Never.ensures.held;
    }

pub returns : goal.returns
returns c =
    let shape = c.args.shape.now in
    let raw = c.args.rows.now.raw in
    let none : c.loop-t.t ≡ 0 = omega (arith, c.loop-t-test.false) in
    let above = subst (NoneFitsAbove shape raw) none c.loop-t.invariant.none in
    record { lawful = uniform_lawful shape raw c.args.nodes c.args.root 0 c.requires.several c.requires.root (omega arith) above c.uniform_plan-2.result (λ l. absurd (omega (arith, l))) c.uniform_plan-2.ensures }
