use Rattle.std.proofs.Common.{◌≡◌, ◌<◌, ◌≤◌, ℕ, pos, length, slice_index_or}
use Rattle.ac_energy.specs.Coefficients.{entry}
use Rattle.ac_coupling.specs.Coupling.{mean_of}
use Rattle.ac_coupling.proofs.means.fill_block.Given as goal

abbrev pub invariant-loop-k : goal.invariant-loop-k
invariant-loop-k l =
    (length l.out ≡ 256) × ((k : ℕ) → l.start ≤ k → k < l.k → slice_index_or l.out k (pos 0) ≡ mean_of l.full (entry l.coefs.c) l.b k)
