use Rattle.ac_coupling.proofs.Nearest.{within_below, within_above}
use Rattle.ac_coupling.proofs.factors.limit.Goals as goal

pub returns-clause-below : goal.returns-clause-below
returns-clause-below c =
    λ v below. within_below c.args.own c.args.shared c.isqrt.result v c.requires.some c.isqrt.ensures.at_most below

pub returns-clause-above : goal.returns-clause-above
returns-clause-above c =
    λ v within. within_above c.args.own c.args.shared c.isqrt.result v c.requires.some c.isqrt.ensures.greatest within
