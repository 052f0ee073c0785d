use Rattle.std.proofs.Common.{◌≡◌, ◌≤◌, length, ◌+ℤ◌, neg_ℤ}
use Rattle.std.specs.Prelude.{◌⊎◌}
use Rattle.ac_separation.specs.Separation.{clamped}
use Rattle.ac_separation.specs.Written.{at, IsWritten}
use Rattle.ac_separation.proofs.rows.sum_rows.Given as goal

abbrev pub invariant-loop-k : goal.invariant-loop-k
invariant-loop-k l =
    ((l.k ≤ l.end) ⊎ (l.k ≤ l.start)) × (length l.left ≡ 256) × (length l.right ≡ 256)
    × IsWritten l.start l.k (λ k. clamped (at l.fn.left k +ℤ at l.fn.right k)) (at l.fn.left) (at l.left)
    × IsWritten l.start l.k (λ k. clamped (at l.fn.left k +ℤ neg_ℤ (at l.fn.right k))) (at l.fn.right) (at l.right)
