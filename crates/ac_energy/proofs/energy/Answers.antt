use Rattle.std.proofs.Common.{◌≡◌, ◌+◌, ◌-◌, ℕ, ap, sym, ◌∙◌, refl, arith}
use Rattle.ac_base.specs.Sigma.{sum_below}
use Rattle.ac_energy.specs.Coefficients.{cell_of}
use Rattle.ac_energy.specs.Energy.{square, energy_of}
use Rattle.ac_energy.proofs.Sums.{sum_none, sum_next}
use Rattle.ac_energy.proofs.energy.Goals as goal

pub loop-b-init : goal.loop-b-init
loop-b-init c =
    let f = λ (b : ℕ). sum_below (c.args.end - c.args.start) (λ i. square (cell_of c.args.rows.now b (c.args.start + i))) in
    (sym (sum_none 0 f refl), omega arith)

pub loop-b-preserved : goal.loop-b-preserved
loop-b-preserved c =
    let f = λ (b : ℕ). sum_below (c.args.end - c.args.start) (λ i. square (cell_of c.args.rows.now b (c.args.start + i))) in
    let next = sum_next (c.loop-b.b + 1) c.loop-b.b f refl in (
      ap (λ x. x + c.block_energy-sum.result) c.loop-b.invariant.0 ∙ ap (λ x. sum_below c.loop-b.b f + x) c.block_energy-sum.ensures.value ∙ sym next,
      omega arith,
    )

pub returns-clause-value : goal.returns-clause-value
unfolding energy_of
returns-clause-value c =
    let f = λ (b : ℕ). sum_below (c.args.end - c.args.start) (λ i. square (cell_of c.args.rows.now b (c.args.start + i))) in
    let all : c.loop-b.b ≡ 6 = omega arith in
    c.loop-b.invariant.0 ∙ ap (λ n. sum_below n f) all
