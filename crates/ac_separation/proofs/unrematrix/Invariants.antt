use Rattle.ac_separation.proofs.Rematrixing.{AreSoFar}
use Rattle.ac_separation.proofs.unrematrix.Given as goal

abbrev pub invariant-loop-band : goal.invariant-loop-band
invariant-loop-band l = AreSoFar l.band l.b l.end l.block l.fn.values.c l.values.c
