use Rattle.std.proofs.Common.{◌≡◌, ◌<◌, ◌^◌, ◌-ℤ◌, ◌*ℤ◌, ℤ, pos, unsigned_abs, SFits, w32, rules, arith, sym, ap, ◌∙◌, subst, lit<}
use Rattle.std.proofs.lemmas.Int.{to_z-of_z, fits_signed_mul, fits_signed_from_abs}
use Rattle.ac_convolution.specs.Transform.{low_of, high_of}
use Rattle.ac_convolution.proofs.Whole.{low_is, low_bound}
use Rattle.ac_convolution.proofs.table.low_part.Goals as goal

is_low : (z h : ℤ) → h ≡ high_of z → z -ℤ h *ℤ pos 32768 ≡ low_of z
is_low z h is = ap (λ x. z -ℤ x *ℤ pos 32768) is ∙ sym (low_is z)

fits_low : (z h : ℤ) → h ≡ high_of z → SFits w32 (z -ℤ h *ℤ pos 32768)
fits_low z h is = let bound = low_bound z in let same = is_low z h is in fits_signed_from_abs w32 (z -ℤ h *ℤ pos 32768) (subst (λ (x : ℤ). unsigned_abs x < 2 ^ 31) (sym same) (omega arith))

pub overflow_sub-result : goal.overflow_sub-result
overflow_sub-result c =
    let fits_z : SFits w32 c.args.z = search rules in
    let fits_h : SFits w32 c.high_part.result = search rules in
    let is : c.high_part.result ≡ high_of c.args.z = simp to_z-of_z at c.high_part.ensures.value in
    let times : SFits w32 (c.high_part.result *ℤ pos 32768) = fits_signed_mul w32 c.high_part.result (pos 32768) (2 ^ 15) 32768 c.high_part.ensures.bound (omega arith) (lit< tt) in
    simp to_z-of_z (fits_low c.args.z c.high_part.result is)

pub returns : goal.returns
returns c =
    let fits_z : SFits w32 c.args.z = search rules in
    let fits_h : SFits w32 c.high_part.result = search rules in
    let is : c.high_part.result ≡ high_of c.args.z = simp to_z-of_z at c.high_part.ensures.value in
    let times : SFits w32 (c.high_part.result *ℤ pos 32768) = fits_signed_mul w32 c.high_part.result (pos 32768) (2 ^ 15) 32768 c.high_part.ensures.bound (omega arith) (lit< tt) in
    let whole = fits_low c.args.z c.high_part.result is in
    record { value = simp to_z-of_z (is_low c.args.z c.high_part.result is) }
