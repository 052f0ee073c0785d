use Rattle.std.proofs.Common.{◌≡◌, ◌+◌, ◌^◌, ◌+ℤ◌, ◌-ℤ◌, length}
use Rattle.ac_convolution.specs.Negacyclic.{items}
use Rattle.ac_convolution.specs.Rows.{row, Rows, RowsWithin}
use Rattle.ac_convolution.proofs.inverse.pairs.Given as goal

abbrev pub invariant-loop-e : goal.invariant-loop-e
invariant-loop-e l = (length l.even ≡ 16) × Rows l.e 16 (λ e k. items (row l.q e) k +ℤ items (row l.q (e + 16)) k) l.even × RowsWithin (2 ^ 55) l.e 16 l.even

abbrev pub invariant-loop-d : goal.invariant-loop-d
invariant-loop-d l = (length l.odd ≡ 16) × Rows l.d 16 (λ e k. items (row l.q e) k -ℤ items (row l.q (e + 16)) k) l.odd × RowsWithin (2 ^ 55) l.d 16 l.odd
