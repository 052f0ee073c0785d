use Rattle.std.proofs.Common.{◌≡◌, ℕ, ◌<◌, ◌≤◌, ◌⊎◌, slice_index, ℤ, pos, ◌+ℤ◌}
use Rattle.ac_alloc.specs.Pointers.{bap_of, kept}
use Rattle.ac_alloc.specs.Integration.{psd}
use Rattle.ac_base.specs.Allocation.{masktab_list}
use Rattle.ac_alloc.proofs.pointers.allocate_bins.Given as goal

abbrev pub invariant-loop-k : goal.invariant-loop-k
invariant-loop-k l =
    ((j : ℕ) → l.start ≤ j → j < l.k → (level : ℤ) → pos (slice_index l.levels (slice_index masktab_list j)) ≡ kept level +ℤ pos 2048 → slice_index l.out j ≡ bap_of level (psd l.exps j)) × ((j : ℕ) → (j < l.start) ⊎ (l.k ≤ j) → slice_index l.out j ≡ slice_index l.initial.out j)
