use Rattle.std.proofs.Common.{◌≡◌, ◌^◌, length}
use Rattle.ac_convolution.specs.Negacyclic.{items}
use Rattle.ac_convolution.specs.Rows.{row, Rows, RowsWithin}
use Rattle.ac_convolution.specs.Transform.{joined_of}
use Rattle.ac_convolution.proofs.product.products.Given as goal

abbrev pub invariant-loop-e : goal.invariant-loop-e
invariant-loop-e l = (length l.out ≡ 32) × Rows l.e 16 (λ e. joined_of (items (row l.parts e)) (items (row l.kernels e))) l.out × RowsWithin (2 ^ 54) l.e 16 l.out
