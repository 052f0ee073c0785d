use Rattle.std.proofs.Common.{◌≡◌, ◌^◌, length}
use Rattle.ac_convolution.specs.Negacyclic.{items}
use Rattle.ac_convolution.specs.Rows.{Rows, RowsWithin}
use Rattle.ac_convolution.specs.Transform.{spread_of, forward_of, parts_of}
use Rattle.ac_convolution.proofs.forward.forward.Given as goal

abbrev pub invariant-loop-e : goal.invariant-loop-e
invariant-loop-e l = (length l.out ≡ 32) × Rows l.e 24 (λ e. parts_of (forward_of (spread_of (items l.g)) e)) l.out × RowsWithin (2 ^ 29) l.e 24 l.out

abbrev pub invariant-loop-d : goal.invariant-loop-d
invariant-loop-d l = (length l.out ≡ 32) × Rows l.d 24 (λ e. parts_of (forward_of (spread_of (items l.g)) e)) l.out × RowsWithin (2 ^ 29) l.d 24 l.out
