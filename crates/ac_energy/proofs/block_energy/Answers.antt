use Rattle.std.proofs.Common.{◌≡◌, ◌+◌, ◌-◌, ◌≤◌, ℕ, pos, slice_index_or, SFits, w32, rules, ap, sym, ◌∙◌, arith}
use Rattle.std.proofs.lemmas.Int.{to_z-of_z}
use Rattle.ac_base.specs.Sigma.{sum_below}
use Rattle.ac_energy.specs.Energy.{square}
use Rattle.ac_energy.proofs.Sums.{sum_none, sum_from}
use Rattle.ac_energy.proofs.block_energy.Goals as goal

pub loop-k-init : goal.loop-k-init
loop-k-init c =
    let f = λ (k : ℕ). square (slice_index_or c.args.row.now k (pos 0)) in (
      sym (sum_none (c.args.start - c.args.start) (λ i. f (c.args.start + i)) (omega arith)),
      omega arith,
      omega arith,
    )

pub loop-k-preserved : goal.loop-k-preserved
loop-k-preserved c =
    let start = c.args.start in
    let k = c.loop-k.k in
    let f = λ (j : ℕ). square (slice_index_or c.args.row.now j (pos 0)) in
    let fits : SFits w32 (slice_index_or c.args.row.now c.from.result (pos 0)) = search rules in
    let there : c.squared-sum.result ≡ f c.from.result = simp to_z-of_z at c.squared-sum.ensures.value in
    let here : c.squared-sum.result ≡ f k = there ∙ ap f c.from.ensures in
    let next = sum_from start k f c.loop-k.auto.k in
    let steps : k + 1 - start ≡ (k - start) + 1 = omega (arith, c.loop-k.auto.k) in (
      ap (λ x. x + c.squared-sum.result) c.loop-k.invariant.0 ∙ ap (λ x. sum_below (k - start) (λ i. f (start + i)) + x) here ∙ sym next,
      omega (arith, c.loop-k.invariant.1, c.squared-sum.ensures.bound, steps),
      omega arith,
    )

pub returns-clause-value : goal.returns-clause-value
returns-clause-value c =
    let f = λ (k : ℕ). square (slice_index_or c.args.row.now k (pos 0)) in
    let all : c.loop-k.k - c.args.start ≡ c.args.end - c.args.start = omega arith in
    c.loop-k.invariant.0 ∙ ap (λ n. sum_below n (λ i. f (c.args.start + i))) all

pub returns-clause-bound : goal.returns-clause-bound
returns-clause-bound c =
    let most : c.loop-k.k - c.args.start ≤ 255 = omega arith in
    omega (arith, c.loop-k.invariant.1, most)
