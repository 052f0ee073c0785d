use Rattle.std.proofs.Common.{◌≡◌, ◌^◌, ◌-◌, ℤ, pos, ◌+ℤ◌, ◌≤ℤ◌, SFits, w64, rules, subst, sym}
use Rattle.std.proofs.lemmas.Int.{to_z-of_z}
use Rattle.ac_mant.specs.Quantiser.{nearest}
use Rattle.ac_mant.proofs.Rounding.{nearest_low}
use Rattle.ac_mant.proofs.quantiser.steps.Goals as goal

pub returns-clause-low : goal.returns-clause-low
returns-clause-low c =
    let fits : SFits w64 c.steps_capped.result = search rules in
    let value : c.steps_capped.result ≡ nearest c.args.width c.args.z = search rules in
    let low = nearest_low c.args.width c.args.z c.requires.least c.requires.most c.requires.bound in
    simp to_z-of_z (subst (λ (q : ℤ). pos 0 ≤ℤ (q +ℤ pos (2 ^ (c.args.width - 1)))) (sym value) low)
