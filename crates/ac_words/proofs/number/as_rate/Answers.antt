use Rattle.std.proofs.Common.{arith, ◌≤◌}
use Rattle.ac_base.proofs.RateTable.{rate_most}
use Rattle.ac_words.proofs.number.as_rate.Goals as goal

pub returns-in_default-2 : goal.returns-in_default-2
returns-in_default-2 c = λ is.
    let most : c.args.number ≤ 640 = rate_most c.args.number is in
    let fails = c.in_default.ensures in
    grind arith
