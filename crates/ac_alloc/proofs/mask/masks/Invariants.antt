use Rattle.std.proofs.Common.{◌≡◌, ℕ, ◌<◌, ◌≤◌, ◌⊎◌, length, slice_index, slice_index_or, pos}
use Rattle.ac_alloc.specs.Masking.{masked, IsLevel}
use Rattle.ac_alloc.specs.Codes.{knee}
use Rattle.ac_base.specs.Allocation.{hth_list}
use Rattle.ac_alloc.proofs.mask.masks.Given as goal

abbrev pub invariant-loop-b : goal.invariant-loop-b
invariant-loop-b l =
    ((k : ℕ) → l.from ≤ k → k < l.b → slice_index_or l.out k (pos 0) ≡ masked (slice_index_or l.excite k (pos 0)) (knee l.p) (slice_index l.bndpsd k) (slice_index (hth_list l.p.fscod) k)) × ((k : ℕ) → IsLevel (slice_index_or l.out k (pos 0))) × (length l.out ≡ 50) × ((k : ℕ) → (k < l.from) ⊎ (l.b ≤ k) → slice_index_or l.out k (pos 0) ≡ slice_index_or l.initial.out k (pos 0))
