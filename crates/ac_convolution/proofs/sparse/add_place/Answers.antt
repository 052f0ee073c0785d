use Rattle.std.proofs.Common.{◌≡◌, ◌+◌, ◌+ℤ◌, ◌*ℤ◌, ℤ, pos, subst, sym}
use Rattle.ac_convolution.specs.Negacyclic.{items}
use Rattle.ac_convolution.proofs.Places.{nothing_added, zero_is}
use Rattle.ac_convolution.proofs.sparse.add_place.Goals as goal

pub returns-else-factor-ne0 : goal.returns-else-factor-ne0
returns-else-factor-ne0 c = λ k below.
    let old = items c.args.total.now k in
    let w = items c.args.factors.now (c.args.from + k) in
    let none = zero_is c.args.factor c.ranges.factor c.if-factor-ne0.false in
    subst (λ (z : ℤ). old ≡ old +ℤ (z *ℤ w)) (sym none) (nothing_added old w)
