use Rattle.std.proofs.Common.{◌*◌, ap, ◌∙◌}
use Rattle.std.specs.Prelude.{nat_le}
use Rattle.ac_base.specs.Sigma.{sum_below}
use Rattle.ac_base.specs.Shape.{full_of}
use Rattle.ac_energy.specs.Coefficients.{entry, cell_of}
use Rattle.ac_energy.specs.Energy.{energy_of}
use Rattle.ac_coupling.specs.Coupling.{mean_of, start_of}
use Rattle.ac_coupling.proofs.Sums.{energy_same, is_worth_at}
use Rattle.ac_coupling.proofs.whole.couples.Goals as goal

pub returns : goal.returns
returns c =
    let x = entry c.args.coefs.now.c in
    let shape = c.args.coupled.now in
    let full = c.full-full.result in
    let start = c.of-range.result.start in
    let end = c.of-range.result.end in
    let own = sum_below full (λ i. energy_of (x i) start end) in
    let mean = energy_same (cell_of c.means-shared.result) (mean_of full x) start end c.means-shared.ensures.mean in
    c.keeps_quarter.ensures
    ∙ ap (λ e. nat_le e (4 * full * c.energy.result)) c.full_energy-own.ensures.value
    ∙ ap (λ e. nat_le own (4 * full * e)) (c.energy.ensures.value ∙ mean)
    ∙ ap (λ n. is_worth_at n start end x) c.full-full.ensures.value
    ∙ ap (λ s. is_worth_at (full_of shape.acmod) s end x) c.of-range.ensures.start
    ∙ ap (λ e. is_worth_at (full_of shape.acmod) (start_of shape.couple) e x) c.of-range.ensures.end
