use Rattle.std.proofs.Common.{ap, subst}
use Rattle.ac_cost.specs.Records.{AtOffset}
use Rattle.ac_bound.specs.Ways.{potential}
use Rattle.ac_seek.specs.Walks.{IsFound}
use Rattle.ac_seek.proofs.Answering.{answered}
use Rattle.ac_seek.proofs.search.seek.Goals as goal

pub returns : goal.returns
returns g c =
    let found = subst (λ (v : AtOffset). IsFound v c.args.nodes c.walk.result) (ap g.C.RunCosts.offset c.of.ensures.table) c.walk.ensures in
    record { value = answered (g.C.RunCosts.offset c.args.table.now) (potential c.args.pots.now.p) c.args.nodes c.walk.result c.requires.potentials found }
