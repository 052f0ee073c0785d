use Rattle.std.proofs.Common.{◌^◌, ◌*ℤ◌, unsigned_abs, SFits, w64, lit<, refl}
use Rattle.std.proofs.lemmas.Int.{to_z-of_z, fits_signed_mul, unsigned_abs-mul}
use Rattle.std.proofs.lemmas.Nat.{mul-le}
use Rattle.ac_mdct.proofs.rounding.product.Goals as goal

pub returns-clause-value : goal.returns-clause-value
returns-clause-value c =
    let left = c.ranges.a in
    let right = c.ranges.b in
    let fits : SFits w64 (c.args.a *ℤ c.args.b) = fits_signed_mul w64 c.args.a c.args.b (2 ^ 40) (2 ^ 15) c.requires.left c.requires.right (lit< tt) in
    simp to_z-of_z refl

pub returns-clause-bound : goal.returns-clause-bound
returns-clause-bound c =
    let left = c.ranges.a in
    let right = c.ranges.b in
    let fits : SFits w64 (c.args.a *ℤ c.args.b) = fits_signed_mul w64 c.args.a c.args.b (2 ^ 40) (2 ^ 15) c.requires.left c.requires.right (lit< tt) in
    let bound = mul-le (unsigned_abs c.args.a) (unsigned_abs c.args.b) (2 ^ 40) (2 ^ 15) c.requires.left c.requires.right in
    simp to_z-of_z (rw unsigned_abs-mul bound)
