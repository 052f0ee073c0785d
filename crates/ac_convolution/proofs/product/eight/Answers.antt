use Rattle.std.proofs.Common.{◌≤◌, ◌+◌, ◌*◌, ◌^◌, ◌+ℤ◌, ◌*ℤ◌, ℤ, pos, unsigned_abs, slice_index_or, rules, arith, sym, ◌∙◌, ap, subst, SFits, w64}
use Rattle.std.proofs.lemmas.Int.{to_z-of_z}
use Rattle.std.proofs.lemmas.List.{get_or-replicate}
use Rattle.ac_base.proofs.Sums.{sigma_zero, sigma_more}
use Rattle.ac_convolution.specs.Negacyclic.{items}
use Rattle.ac_convolution.proofs.Karatsuba.{products_bound}
use Rattle.ac_convolution.proofs.product.eight.Goals as goal

pub loop-s-init : goal.loop-s-init
loop-s-init c = λ i below. get_or-replicate 8 i (pos 0) (pos 0) below ∙ sym (sigma_zero _)

pub add_products-requires-clause-total : goal.add_products-requires-clause-total
add_products-requires-clause-total c = λ i below.
    let bound = products_bound c.args.parts.now c.args.kernel.now c.requires.parts c.requires.kernel c.args.at c.args.from i c.loop-s.s c.requires.at c.requires.from below (omega arith) in
    let is = c.loop-s.invariant i below in
    subst (λ (z : ℤ). unsigned_abs z ≤ 15 * 2 ^ 50) (sym is) (omega arith)

pub loop-s-preserved : goal.loop-s-preserved
loop-s-preserved c = λ i below.
    let p = c.args.parts.now in
    let w = c.args.kernel.now in
    let at = c.args.at in
    let from = c.args.from in
    let s = c.loop-s.s in
    let fits : SFits w64 (slice_index_or c.args.parts.now (c.args.at + c.loop-s.s) (pos 0)) = search rules in
    let new = simp to_z-of_z at (c.add_products.ensures i below) in
    new
    ∙ ap (λ z. z +ℤ (items p (at + s) *ℤ items w (from + s + i))) (c.loop-s.invariant i below)
    ∙ sym (sigma_more s (λ s. items p (at + s) *ℤ items w (from + s + i)))

pub returns-clause-bound : goal.returns-clause-bound
returns-clause-bound c = λ i below.
    let bound = products_bound c.args.parts.now c.args.kernel.now c.requires.parts c.requires.kernel c.args.at c.args.from i c.loop-s.s c.requires.at c.requires.from below (omega arith) in
    let is = c.loop-s.invariant i below in
    subst (λ (z : ℤ). unsigned_abs z ≤ 2 ^ 53) (sym is) (omega arith)
