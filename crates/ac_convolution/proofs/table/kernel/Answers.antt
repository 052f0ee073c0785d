use Rattle.std.proofs.Common.{◌≤◌, ◌+◌, ◌*◌, ◌^◌, ◌+ℤ◌, ℤ, unsigned_abs, SFits, w64, rules, arith, sym, ap₂, ◌∙◌, subst}
use Rattle.std.proofs.lemmas.Int.{to_z-of_z}
use Rattle.ac_base.proofs.Sums.{sigma_zero, sigma_more}
use Rattle.ac_convolution.specs.Negacyclic.{wave, items}
use Rattle.ac_convolution.proofs.Whole.{some_kernel}
use Rattle.ac_convolution.proofs.table.kernel.Goals as goal

pub loop-j-init : goal.loop-j-init
loop-j-init c = sym (sigma_zero _)

pub sum-total-requires-clause-left : goal.sum-total-requires-clause-left
sum-total-requires-clause-left c =
    let bound = some_kernel (items c.args.half.now) c.requires.bound c.args.e c.args.t c.loop-j.j (omega arith) in
    let is = c.loop-j.invariant in
    subst (λ (z : ℤ). unsigned_abs z ≤ 2 ^ 60) (sym is) (omega arith)

pub loop-j-preserved : goal.loop-j-preserved
loop-j-preserved c =
    let h = items c.args.half.now in
    let j = c.loop-j.j in
    let fits_e : SFits w64 c.entry.result = search rules in
    let fits : SFits w64 c.sum-total.result = search rules in
    let value = simp to_z-of_z at c.sum-total.ensures.value in
    let more = sigma_more j (λ j. wave 256 h (16 * (c.args.t + c.args.e * j) + j)) in
    simp to_z-of_z (value ∙ ap₂ ◌+ℤ◌ c.loop-j.invariant c.entry.ensures.value ∙ sym more)

pub returns-clause-bound : goal.returns-clause-bound
returns-clause-bound c =
    let bound = some_kernel (items c.args.half.now) c.requires.bound c.args.e c.args.t c.loop-j.j (omega arith) in
    let is = c.loop-j.invariant in
    subst (λ (z : ℤ). unsigned_abs z ≤ 2 ^ 20) (sym is) (omega arith)
