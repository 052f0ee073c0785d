use Rattle.std.proofs.Common.{◌≡◌, pos, slice_index_or}
use Rattle.ac_rematrix.specs.Energies.{with_row}
use Rattle.ac_rematrix.proofs.energies.add_row.Given as goal

abbrev pub invariant-loop-i : goal.invariant-loop-i
invariant-loop-i l = l.sums ≡ with_row l.fn.energies (λ k. slice_index_or l.left k (pos 0)) (λ k. slice_index_or l.right k (pos 0)) l.start l.i
