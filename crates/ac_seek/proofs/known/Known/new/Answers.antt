use Rattle.ac_seek.proofs.Places.{none-known}
use Rattle.ac_seek.proofs.known.Known.new.Goals as goal

pub invariant_of-result : goal.invariant_of-result
invariant_of-result g c = none-known (g.C.RunCosts.offset c.args.table.now)
