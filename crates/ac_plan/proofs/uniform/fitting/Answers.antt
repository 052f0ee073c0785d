use Rattle.std.proofs.Common.{sym, ◌∙◌, subst}
use Rattle.ac_base.specs.declared.shapes.Shape.{Shape}
use Rattle.ac_cost.specs.Records.{at_offset}
use Rattle.ac_seek.proofs.Sames.{takes-low}
use Rattle.ac_plan.specs.Totals.{AreTotals}
use Rattle.ac_plan.proofs.Passing.{false-not_true}
use Rattle.ac_plan.proofs.Beside.{uniform_unfit}
use Rattle.ac_plan.proofs.Uniforms.{fits_alike, uniform_by, assignment}
use Rattle.ac_plan.proofs.uniform.fitting.Goals as goal

pub returns-then-is_over-clause-none : goal.returns-then-is_over-clause-none
returns-then-is_over-clause-none g c = λ e assign by fits.
    let v = g.C.RunCosts.offset c.args.costs.now in
    let shape = c.args.shape.now in
    let totals = subst (λ (s : Shape). AreTotals (at_offset s v.raw v.t) c.args.totals.now) c.requires.same c.requires.totals in
    uniform_unfit (at_offset shape v.raw v.t) c.args.word.now c.args.sides.now c.sixths.result assign c.requires.word c.requires.sides
    (λ part p. c.sixths.ensures (at_offset shape v.raw v.t) part totals p) (c.is_over.ensures.value.0 c.if-is_over.true) by fits

pub returns-else-assign_fits-clause-none : goal.returns-else-assign_fits-clause-none
returns-else-assign_fits-clause-none g c = λ e assign by fits.
    let v = g.C.RunCosts.offset c.args.costs.now in
    let fit = fits_alike c.args.shape.now v.raw v.t c.args.word.now assign c.uniform-assign.result.w by c.uniform-assign.ensures fits in
    false-not_true (sym c.if-assign_fits.false ∙ c.assign_fits.ensures.value.1 fit)

pub assign_fits-requires-clause-low : goal.assign_fits-requires-clause-low
assign_fits-requires-clause-low g c =
    let shape = c.args.shape.now in
    let words = c.uniform-assign.result.w in
    takes-low shape words (assignment shape words (uniform_by shape c.args.word.now words c.requires.word c.uniform-assign.ensures))
