use Rattle.ac_levels.proofs.Placing.{ArePlaced}
use Rattle.ac_levels.proofs.steps.place_bins.Given as goal

abbrev pub invariant-loop-k : goal.invariant-loop-k
invariant-loop-k l = ArePlaced l.row l.places l.start l.k l.at
