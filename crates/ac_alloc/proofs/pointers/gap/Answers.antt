use Rattle.std.proofs.Common.{◌≡◌, ◌*◌, ◌^◌, ◌<◌, ℤ, pos, negsuc, ◌+◌, ◌-ℤ◌, unsigned_abs, SFits, w32, w64, arith, ap, ◌∙◌}
use Rattle.std.proofs.lemmas.Int.{to_z-of_z, fits_signed_from_abs, ints}
use lib.Signed.{mag}
use Rattle.ac_alloc.proofs.pointers.gap.Goals as goal

same : (x y z m s f : ℤ) → x ≡ m → y ≡ s → z ≡ f → x -ℤ (y -ℤ pos 960) -ℤ z ≡ m -ℤ (s -ℤ pos 960) -ℤ f
same x y z m s f ex ey ez =
    ap (λ v. v -ℤ (y -ℤ pos 960) -ℤ z) ex ∙ ap (λ v. m -ℤ (v -ℤ pos 960) -ℤ z) ey ∙ ap (λ v. m -ℤ (s -ℤ pos 960) -ℤ v) ez

abs_of : (z : ℤ) → mag z < 2 ^ 31 → unsigned_abs z < 2 ^ 31 + 1
abs_of (pos n) h = omega (arith, h)
abs_of (negsuc n) h = omega (arith, h)

pub returns : goal.returns
returns c =
    let m = c.args.mask in
    let f = c.args.floor in
    let x = c.from.result in
    let y = c.from-2.result in
    let z = c.from-3.result in
    let ex : x ≡ m = c.from.ensures ∙ to_z-of_z w32 m c.ranges.mask in
    let ez : z ≡ f = c.from-3.ensures ∙ to_z-of_z w32 f c.ranges.floor in
    let ey : y ≡ pos (4 * c.args.t) = c.from-2.ensures in
    let bm = abs_of m c.ranges.mask.sfits in
    let bf = abs_of f c.ranges.floor.sfits in
    let fx : SFits w64 x = record { sfits = c.from.type_inv } in
    let fy : SFits w64 y = record { sfits = c.from-2.type_inv } in
    let fz : SFits w64 z = record { sfits = c.from-3.type_inv } in
    let d : SFits w64 (y -ℤ pos 960) = fits_signed_from_abs w64 (y -ℤ pos 960) (omega (arith, ints, ey, c.requires)) in
    let e : SFits w64 (x -ℤ (y -ℤ pos 960)) = fits_signed_from_abs w64 (x -ℤ (y -ℤ pos 960)) (omega (arith, ints, ex, ey, bm, c.requires)) in
    let g : SFits w64 (x -ℤ (y -ℤ pos 960) -ℤ z) = fits_signed_from_abs w64 (x -ℤ (y -ℤ pos 960) -ℤ z) (omega (arith, ints, ex, ey, ez, bm, bf, c.requires)) in
    simp to_z-of_z (same x y z m (pos (4 * c.args.t)) f ex ey ez)
