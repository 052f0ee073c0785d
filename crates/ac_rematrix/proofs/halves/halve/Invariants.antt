use Rattle.ac_rematrix.proofs.Halved.{AreHalvedSoFar}
use Rattle.ac_rematrix.proofs.halves.halve.Given as goal

abbrev pub invariant-loop-b : goal.invariant-loop-b
invariant-loop-b l = AreHalvedSoFar l.b l.start l.end l.fn.left l.fn.right l.left l.right
