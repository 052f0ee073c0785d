use Rattle.std.proofs.Common.{◌+◌, ℕ, refl, ap, sym, ◌∙◌, arith}
use Rattle.ac_base.specs.Sigma.{sum_below}
use Rattle.ac_energy.specs.Coefficients.{entry}
use Rattle.ac_energy.specs.Energy.{energy_of}
use Rattle.ac_energy.proofs.Sums.{sum_none, sum_next}
use Rattle.ac_coupling.proofs.whole.full_energy.Goals as goal

pub loop-c-init : goal.loop-c-init
loop-c-init c =
    let f = λ (i : ℕ). energy_of (entry c.args.coefs.now.c i) c.args.start c.args.end in
    (sym (sum_none 0 f refl), omega arith)

pub loop-c-preserved : goal.loop-c-preserved
loop-c-preserved c =
    let f = λ (i : ℕ). energy_of (entry c.args.coefs.now.c i) c.args.start c.args.end in
    let next = sum_next (c.loop-c.c + 1) c.loop-c.c f refl in (
      ap (λ x. x + c.energy-sum.result) c.loop-c.invariant.0 ∙ ap (λ x. sum_below c.loop-c.c f + x) c.energy-sum.ensures.value ∙ sym next,
      omega (arith, c.loop-c.invariant.1, c.energy-sum.ensures.bound),
    )
