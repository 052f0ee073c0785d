use Rattle.std.proofs.Common.{◌≡◌, length}
use Rattle.ac_convolution.specs.Negacyclic.{items}
use Rattle.ac_convolution.specs.Rows.{Rows}
use Rattle.ac_convolution.specs.Transform.{table_of}
use Rattle.ac_convolution.proofs.table.table.Given as goal

abbrev pub invariant-loop-e : goal.invariant-loop-e
invariant-loop-e l = (length l.out ≡ 32) × Rows l.e 48 (table_of (items l.half)) l.out
