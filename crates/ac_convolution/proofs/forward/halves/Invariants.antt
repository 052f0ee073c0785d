use Rattle.std.proofs.Common.{◌≡◌, ◌^◌, length}
use Rattle.ac_convolution.specs.Rows.{Rows, RowsWithin}
use Rattle.ac_convolution.specs.Transform.{half_of}
use Rattle.ac_convolution.proofs.forward.halves.Given as goal

abbrev pub invariant-loop-e : goal.invariant-loop-e
invariant-loop-e l = (length l.out ≡ 16) × Rows l.e 16 (half_of l.rows l.from) l.out × RowsWithin (2 ^ 27) l.e 16 l.out
