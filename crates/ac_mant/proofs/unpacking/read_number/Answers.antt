use Rattle.std.proofs.Common.{◌≡◌, ◌<◌, ◌++◌, ◌^◌, Ok, Err, List, Bool, rules, sym, subst}
use Rattle.ac_bits.specs.Bits.{bits}
use Rattle.ac_mant.specs.declared.coded.MantFault.TheVariants.{BadGroup}
use Rattle.ac_mant.specs.Unpacking.{read_number}
use Rattle.ac_mant.proofs.Reading.{read_low, read_high}
use Rattle.ac_mant.proofs.unpacking.read_number.Goals as goal

pub returns-then-number-limit : goal.returns-then-number-limit
returns-then-number-limit c =
    let fits : c.in-Ok.number < 2 ^ c.args.width = search rules in
    let old : c.args.window.now ≡ bits c.in-Ok.number c.args.width ++ c.take.new.self = search rules in
    subst (λ (l : List Bool). read_number c.args.place c.args.width c.args.limit l ≡ Err (BadGroup c.args.place)) (sym old)
    (read_high c.args.place c.args.width c.args.limit c.in-Ok.number c.take.new.self fits c.if-number-limit.true)

pub returns : goal.returns
returns c =
    let fits : c.in-Ok.number < 2 ^ c.args.width = search rules in
    let old : c.args.window.now ≡ bits c.in-Ok.number c.args.width ++ c.take.new.self = search rules in
    subst (λ (l : List Bool). read_number c.args.place c.args.width c.args.limit l ≡ Ok (c.in-Ok.number, c.take.new.self)) (sym old)
    (read_low c.args.place c.args.width c.args.limit c.in-Ok.number c.take.new.self fits c.if-number-limit.false)
