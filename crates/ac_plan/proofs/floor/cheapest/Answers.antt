use Rattle.std.proofs.Common.{ℕ, List, subst}
use Rattle.ac_cost.specs.Parts.{cheapest_assign}
use Rattle.ac_bound.proofs.Offsets.{most}
use Rattle.ac_plan.specs.Uniform.{IsUniformBy}
use Rattle.ac_plan.proofs.Uniforms.{fits_alike, cheapest_by}
use Rattle.ac_plan.proofs.floor.cheapest.Goals as goal

pub returns-clause-fits : goal.returns-clause-fits
returns-clause-fits c = λ raw fits.
    let shape = c.args.shape.now in
    let mine : IsUniformBy shape most c.uniform.result.w = subst (λ (w : List ℕ). IsUniformBy shape w c.uniform.result.w) c.word_at.ensures c.uniform.ensures in
    fits_alike shape raw 0 most (cheapest_assign shape) c.uniform.result.w (cheapest_by shape) mine fits
