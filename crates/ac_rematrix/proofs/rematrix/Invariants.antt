use Rattle.ac_rematrix.proofs.Walk.{AreSoFar}
use Rattle.ac_rematrix.proofs.rematrix.Given as goal

abbrev pub invariant-loop-band : goal.invariant-loop-band
invariant-loop-band l = AreSoFar l.shape l.band l.flags l.fn.coefs.c l.coefs.c
