use Rattle.std.proofs.Common.{◌≤◌, ◌^◌, ◌*ℤ◌, pos, SFits, w32, rules, unsigned_abs, subst, sym}
use Rattle.std.specs.Int.Signed.{shr_z}
use Rattle.std.proofs.lemmas.Int.{to_z-of_z}
use Rattle.ac_noise.proofs.Floors.{floor_within, scaled_within, shifted_is}
use Rattle.ac_noise.proofs.rows.scaled.Goals as goal

pub returns-clause-bound : goal.returns-clause-bound
returns-clause-bound c =
    let z = c.args.z in
    let g = 2 ^ c.args.k in
    let some : 1 ≤ g = search rules in
    let low : unsigned_abs (shr_z z g) ≤ 2 ^ 15 = subst (λ y. unsigned_abs y ≤ 2 ^ 15) (sym (shifted_is z g)) (floor_within z g (2 ^ 15) some c.requires.small) in
    let scaled = scaled_within (shr_z z g) low in
    let fits : SFits w32 z = search rules in
    let fits_shifted : SFits w32 (shr_z z g) = search rules in
    let fits_scaled : SFits w32 (shr_z z g *ℤ pos 256) = search rules in
    simp to_z-of_z scaled
