use Rattle.std.proofs.Common.{◌≡◌, ◌^◌, length}
use Rattle.ac_base.specs.Sigma.{Within, Lists}
use Rattle.ac_convolution.specs.Negacyclic.{items}
use Rattle.ac_convolution.specs.Transform.{column_of}
use Rattle.ac_convolution.proofs.rows.column.Given as goal

abbrev pub invariant-loop-s : goal.invariant-loop-s
invariant-loop-s l = (length l.r ≡ 16) × Lists l.s (column_of (items l.g) l.a) l.r × Within (2 ^ 24) l.s l.r
