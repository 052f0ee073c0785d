use Rattle.std.proofs.Common.{◌≡◌, true, false, slice_index, refl, sym, ap, ◌∙◌, subst}
use Rattle.ac_base.specs.declared.shapes.Shape.{Shape}
use Rattle.ac_cost.specs.Runs.{IsRunOf}
use Rattle.ac_cost.specs.Sixths.{run_sixths, sixths_by_part}
use Rattle.ac_bound.proofs.Threes.{of_three}
use Rattle.ac_plan.specs.Totals.{others_of, low_run}
use Rattle.ac_plan.proofs.Beside.{run_of_low, other_total, low_total}
use Rattle.ac_plan.proofs.totals.total.Goals as goal

pub run_sixths-requires : goal.run_sixths-requires
run_sixths-requires g c =
    let v = g.C.RunCosts.offset c.args.costs.now in
    let low = low_run c.args.run.now in
    let there : v.shape.lfe ≡ true = ap (λ (s : Shape). s.lfe) c.requires.same ∙ c.if-not-shape.false in
    let same : c.others.result ≡ others_of v.shape = c.others.ensures.value ∙ sym (ap others_of c.requires.same) in
    subst (λ n. IsRunOf v.shape n low) (sym same) (run_of_low v.shape c.args.run.now there c.requires.run)

pub returns-then-not-shape-clause-value : goal.returns-then-not-shape-clause-value
returns-then-not-shape-clause-value g c = λ part p.
    let v = g.C.RunCosts.offset c.args.costs.now in
    let none : v.shape.lfe ≡ false = ap (λ (s : Shape). s.lfe) c.requires.same ∙ c.if-not-shape.true in
    other_total v part (slice_index c.all_but_low-sum.result part) c.args.run.now none (c.all_but_low-sum.ensures.value part p)

pub returns-clause-value : goal.returns-clause-value
returns-clause-value g c = λ part p.
    let v = g.C.RunCosts.offset c.args.costs.now in
    let low = low_run c.args.run.now in
    let there : v.shape.lfe ≡ true = ap (λ (s : Shape). s.lfe) c.requires.same ∙ c.if-not-shape.false in
    let same : c.others.result ≡ others_of v.shape = c.others.ensures.value ∙ sym (ap others_of c.requires.same) in
    let here : slice_index c.run_sixths.result part ≡ run_sixths v.shape v.raw v.t part c.others.result low =
    ap (λ xs. slice_index xs part) c.run_sixths.ensures.value ∙ of_three (λ q. slice_index (sixths_by_part v.shape v.raw v.t c.others.result low) q ≡ run_sixths v.shape v.raw v.t q c.others.result low) refl refl refl part p in
    low_total v part (slice_index c.all_but_low-sum.result part) (slice_index c.run_sixths.result part) (slice_index c.sums.result part) c.args.run.now there (c.all_but_low-sum.ensures.value part p)
    (here ∙ ap (λ n. run_sixths v.shape v.raw v.t part n low) same) (c.sums.ensures part p)
