use Rattle.std.proofs.Common.{◌≡◌, ◌∙◌, ◌^◌, pos, ◌+ℤ◌, SFits, w64, rules, arith}
use Rattle.std.proofs.lemmas.Int.{to_z-of_z}
use Rattle.ac_mant.proofs.Rounding.{complement_raised}
use Rattle.ac_mant.proofs.quantiser.raised.Goals as goal

pub returns : goal.returns
returns c =
    let fits : SFits w64 c.sum.result = search rules in
    let value : c.sum.result ≡ c.args.q +ℤ pos (2 ^ c.args.width) = search rules in
    simp to_z-of_z (value ∙ complement_raised c.args.width c.args.q (omega arith) c.requires.low c.requires.negative)
