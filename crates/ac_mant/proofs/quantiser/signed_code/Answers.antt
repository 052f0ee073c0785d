use Rattle.std.proofs.Common.{◌≡◌, ◌^◌, ◌-◌, ◌≤◌, ℤ, unsigned_abs, SFits, w64, rules, arith, subst, sym}
use Rattle.std.proofs.lemmas.Int.{to_z-of_z}
use Rattle.ac_mant.specs.Quantiser.{signed}
use Rattle.ac_mant.proofs.Rounding.{signed_within}
use Rattle.ac_mant.proofs.quantiser.signed_code.Goals as goal

pub returns-clause-bound : goal.returns-clause-bound
returns-clause-bound c =
    let fits : SFits w64 c.signed_of.result = search rules in
    let value : c.signed_of.result ≡ signed c.args.width c.args.code = search rules in
    let within = signed_within c.args.width c.args.code (omega arith) c.requires.most c.requires.code in
    simp to_z-of_z (subst (λ (q : ℤ). unsigned_abs q ≤ 2 ^ (c.args.width - 1)) (sym value) within)
