use Rattle.std.proofs.Common.{◌≡◌, ℕ, ◌+◌, ◌<◌, ◌≤◌, slice_index}
use Rattle.ac_alloc.specs.Excitation.{lowcomp_to}
use Rattle.ac_alloc.proofs.lowcomp.lowcomp_run.Given as goal

abbrev pub invariant-loop-b : goal.invariant-loop-b
invariant-loop-b l =
    (l.low ≡ lowcomp_to (λ j. slice_index l.bndpsd j) l.b) × (l.low ≤ 384) × ((k : ℕ) → k < l.b → slice_index l.out k ≡ lowcomp_to (λ j. slice_index l.bndpsd j) (k + 1)) × ((k : ℕ) → k < l.b → slice_index l.out k ≤ 384)
