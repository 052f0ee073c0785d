use Rattle.std.proofs.Common.{◌≡◌, length}
use Rattle.ac_separation.specs.Written.{at, scaled_by, IsWritten}
use Rattle.ac_separation.proofs.rows.scale_subband.Given as goal

abbrev pub invariant-loop-k : goal.invariant-loop-k
invariant-loop-k l = (length l.row ≡ 256) × IsWritten l.start l.k (λ k. scaled_by l.scale (at l.shared k)) (at l.fn.row) (at l.row)
