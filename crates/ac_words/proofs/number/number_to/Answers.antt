use Rattle.std.proofs.Common.{◌<◌, ◌^◌, arith}
use Rattle.ac_words.proofs.Numbers.{same_number}
use Rattle.ac_words.proofs.number.number_to.Goals as goal

pub returns-in_default : goal.returns-in_default
returns-in_default c = λ n h.
    let fits : n < 2 ^ 64 = omega (arith, h.1) in
    c.in_default.ensures n fits h.0

pub returns-then-number-most : goal.returns-then-number-most
returns-then-number-most c = λ n h.
    let fits : n < 2 ^ 64 = omega (arith, h.1) in
    let other : c.in-Some.number < 2 ^ 64 = omega arith in
    let same = same_number c.args.text.now n c.in-Some.number fits other h.0 c.in-Some.ensures in
    omega (arith, h.1, same)
