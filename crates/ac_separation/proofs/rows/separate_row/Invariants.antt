use Rattle.std.proofs.Common.{◌+◌, ◌*◌}
use Rattle.ac_separation.specs.Written.{at, separated_at, IsWritten}
use Rattle.ac_separation.proofs.rows.separate_row.Given as goal

abbrev pub invariant-loop-n : goal.invariant-loop-n
invariant-loop-n l =
    IsWritten l.start (l.start + 12 * l.n) (separated_at l.block l.c l.start (at l.shared.row)) (at l.fn.row) (at l.row)
