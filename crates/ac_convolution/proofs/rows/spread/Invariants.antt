use Rattle.std.proofs.Common.{◌≡◌, ◌^◌, length}
use Rattle.ac_convolution.specs.Negacyclic.{items}
use Rattle.ac_convolution.specs.Rows.{Rows, RowsWithin}
use Rattle.ac_convolution.specs.Transform.{spread_of}
use Rattle.ac_convolution.proofs.rows.spread.Given as goal

abbrev pub invariant-loop-a : goal.invariant-loop-a
invariant-loop-a l = (length l.rows ≡ 16) × Rows l.a 48 (spread_of (items l.g)) l.rows × RowsWithin (2 ^ 24) l.a 48 l.rows
