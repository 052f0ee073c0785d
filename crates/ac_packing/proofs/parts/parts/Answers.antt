use Rattle.std.proofs.Common.{◌+◌, ◌∙◌, ap, ap₂, arith}
use Rattle.ac_base.specs.declared.sizes.Parts.{Parts}
use Rattle.ac_packing.proofs.Costs.{sum_none_yet, sum_next, sum_fits, sum_all, total_fits}
use Rattle.ac_packing.proofs.parts.parts.Goals as goal

pub loop-b-init : goal.loop-b-init
loop-b-init c = ap (λ (p : Parts). p.total) c.side_bits-total.ensures.value ∙ sum_none_yet c.args.q.now

pub overflow_add-total-in-loop-b : goal.overflow_add-total-in-loop-b
overflow_add-total-in-loop-b c =
    let q = c.args.q.now in
    let b = c.loop-b.b in
    let more = sum_next q b c.loop-b.total (c.block_exponents.result + c.block_mantissas.result) c.loop-b.invariant (ap₂ (λ x y. x + y) c.block_exponents.ensures.value c.block_mantissas.ensures.value) in
    omega (arith, more, sum_fits q c.requires.asked (b + 1) (omega (arith, c.loop-b-test.true)))

pub loop-b-preserved : goal.loop-b-preserved
loop-b-preserved c =
    sum_next c.args.q.now c.loop-b.b c.loop-b.total (c.block_exponents.result + c.block_mantissas.result) c.loop-b.invariant (ap₂ (λ x y. x + y) c.block_exponents.ensures.value c.block_mantissas.ensures.value)

pub overflow_add-result : goal.overflow_add-result
overflow_add-result c =
    let all = sum_all c.args.q.now c.loop-b.b c.loop-b.total c.block_exponents-2.result c.block_mantissas-last.result c.loop-b.auto.b-end c.loop-b-test.false c.loop-b.invariant c.block_exponents-2.ensures.value c.block_mantissas-last.ensures.value in
    omega (arith, total_fits c.args.q.now c.requires.asked _ all)

pub overflow_add-result-2 : goal.overflow_add-result-2
overflow_add-result-2 c =
    let all = sum_all c.args.q.now c.loop-b.b c.loop-b.total c.block_exponents-2.result c.block_mantissas-last.result c.loop-b.auto.b-end c.loop-b-test.false c.loop-b.invariant c.block_exponents-2.ensures.value c.block_mantissas-last.ensures.value in
    omega (arith, total_fits c.args.q.now c.requires.asked _ all)

pub returns-clause-total : goal.returns-clause-total
returns-clause-total c = sum_all c.args.q.now c.loop-b.b c.loop-b.total c.block_exponents-2.result c.block_mantissas-last.result c.loop-b.auto.b-end c.loop-b-test.false c.loop-b.invariant c.block_exponents-2.ensures.value c.block_mantissas-last.ensures.value
