use Rattle.std.proofs.Common.{◌≡◌, ◌^◌, ℤ, SFits, w32, w64, rules, arith, ap, ◌∙◌}
use Rattle.std.proofs.lemmas.Int.{to_z-of_z}
use Rattle.ac_base.specs.Floor.{floor_div}
use Rattle.ac_mant.specs.Quantiser.{levels, middle}
use Rattle.ac_mant.proofs.Middles.{middle_lowered}
use Rattle.ac_mant.proofs.Pointers.{levels_most}
use Rattle.ac_mant.proofs.quantiser.middle_of.Goals as goal

pub middle_entry-requires-clause-small : goal.middle_entry-requires-clause-small
middle_entry-requires-clause-small c = let most = levels_most c.args.bap c.requires.pointer in omega arith

pub returns : goal.returns
returns c =
    let fits : SFits w32 c.middle_entry.result = search rules in
    let fits_from : SFits w64 c.from.result = search rules in
    let fits_result : SFits w64 c.shifted.result = search rules in
    let from = simp to_z-of_z at c.from.ensures in
    let is = simp to_z-of_z at c.shifted.ensures in
    let value : c.shifted.result ≡ middle (levels c.args.bap) c.args.code c.args.e =
    is ∙ ap (λ (z : ℤ). floor_div z (2 ^ c.args.e)) (from ∙ c.middle_entry.ensures) ∙ middle_lowered (levels c.args.bap) c.args.code c.args.e in
    simp to_z-of_z value
