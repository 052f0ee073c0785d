use Rattle.std.proofs.Common.{◌≡◌, length}
use Rattle.ac_rematrix.specs.Halves.{AreHalved}
use Rattle.ac_rematrix.proofs.Halved.{at}
use Rattle.ac_rematrix.proofs.halves.halve_row.Given as goal

abbrev pub invariant-loop-k : goal.invariant-loop-k
invariant-loop-k l =
    (length l.left ≡ 256) × (length l.right ≡ 256) × AreHalved l.start l.k (at l.fn.left) (at l.fn.right) (at l.left) (at l.right)
