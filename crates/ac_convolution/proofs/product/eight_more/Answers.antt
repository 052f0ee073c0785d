use Rattle.std.proofs.Common.{◌≤◌, ◌+◌, ◌*◌, ◌^◌, ◌*ℤ◌, ℤ, pos, unsigned_abs, slice_index_or, rules, arith, sym, subst, SFits, w64}
use Rattle.std.proofs.lemmas.Int.{to_z-of_z, ints}
use Rattle.ac_base.specs.Sigma.{sigma}
use Rattle.ac_base.proofs.Sums.{sigma_zero, sigma_more, abs_add}
use Rattle.ac_convolution.specs.Negacyclic.{items}
use Rattle.ac_convolution.proofs.Karatsuba.{products_bound}
use Rattle.ac_convolution.proofs.product.eight_more.Goals as goal

pub loop-s-init : goal.loop-s-init
loop-s-init c = λ i below.
    let none = sigma_zero (λ s. items c.args.parts.now (c.args.at + s) *ℤ items c.args.kernel.now (c.args.from + s + i)) in
    omega (arith, ints)

pub add_products-requires-clause-total : goal.add_products-requires-clause-total
add_products-requires-clause-total c = λ i below.
    let bound = products_bound c.args.parts.now c.args.kernel.now c.requires.parts c.requires.kernel c.args.at c.args.from i c.loop-s.s c.requires.at c.requires.from below (omega arith) in
    let start = c.requires.start i below in
    let both = abs_add (items c.args.start.now i) (sigma c.loop-s.s (λ s. items c.args.parts.now (c.args.at + s) *ℤ items c.args.kernel.now (c.args.from + s + i))) in
    let is = c.loop-s.invariant i below in
    subst (λ (z : ℤ). unsigned_abs z ≤ 15 * 2 ^ 50) (sym is) (omega arith)

pub loop-s-preserved : goal.loop-s-preserved
loop-s-preserved c = λ i below.
    let p = c.args.parts.now in
    let w = c.args.kernel.now in
    let at = c.args.at in
    let from = c.args.from in
    let s = c.loop-s.s in
    let fits : SFits w64 (slice_index_or c.args.parts.now (c.args.at + c.loop-s.s) (pos 0)) = search rules in
    let new = simp to_z-of_z at (c.add_products.ensures i below) in
    let was = c.loop-s.invariant i below in
    let more = sigma_more s (λ s. items p (at + s) *ℤ items w (from + s + i)) in
    omega (arith, ints)

pub returns-clause-bound : goal.returns-clause-bound
returns-clause-bound c = λ i below.
    let bound = products_bound c.args.parts.now c.args.kernel.now c.requires.parts c.requires.kernel c.args.at c.args.from i c.loop-s.s c.requires.at c.requires.from below (omega arith) in
    let start = c.requires.start i below in
    let both = abs_add (items c.args.start.now i) (sigma c.loop-s.s (λ s. items c.args.parts.now (c.args.at + s) *ℤ items c.args.kernel.now (c.args.from + s + i))) in
    let is = c.loop-s.invariant i below in
    subst (λ (z : ℤ). unsigned_abs z ≤ 2 ^ 54) (sym is) (omega arith)
