use Rattle.std.proofs.Common.{arith}
use Rattle.ac_base.proofs.RateTable.{rate_at}
use Rattle.ac_base.proofs.rates.rate_code.Goals as goal

pub returns : goal.returns
returns c =
    let at = rate_at c.args.rate c.requires in
    absurd (c.loop-code.invariant at.0 (omega (arith, at.1)) at.2)
