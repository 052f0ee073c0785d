use Rattle.std.proofs.Common.{◌≡◌}
use Rattle.ac_packing.proofs.Costs.{sum_to}
use Rattle.ac_packing.proofs.parts.parts.Given as goal

abbrev pub invariant-loop-b : goal.invariant-loop-b
invariant-loop-b l = l.total ≡ sum_to l.q l.b
