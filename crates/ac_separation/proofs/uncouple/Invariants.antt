use Rattle.ac_separation.proofs.Uncoupling.{AreSoFar}
use Rattle.ac_separation.proofs.uncouple.Given as goal

abbrev pub invariant-loop-c : goal.invariant-loop-c
invariant-loop-c l = AreSoFar l.c l.b l.block l.spans l.shared l.fn.values.c l.values.c
