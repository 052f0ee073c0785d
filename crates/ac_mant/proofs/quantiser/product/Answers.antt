use Rattle.std.proofs.Common.{◌^◌, ◌*ℤ◌, SFits, w64, lit<, refl}
use Rattle.std.proofs.lemmas.Int.{to_z-of_z, fits_signed_mul}
use Rattle.ac_mant.proofs.quantiser.product.Goals as goal

pub returns : goal.returns
returns c =
    let left = c.ranges.a in
    let right = c.ranges.b in
    let fits : SFits w64 (c.args.a *ℤ c.args.b) = fits_signed_mul w64 c.args.a c.args.b (2 ^ 25) (2 ^ 24) c.requires.left c.requires.right (lit< tt) in
    simp to_z-of_z refl
