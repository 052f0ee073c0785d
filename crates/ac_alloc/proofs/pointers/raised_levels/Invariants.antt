use Rattle.std.proofs.Common.{◌≡◌, ℕ, ◌<◌, length, slice_index, slice_index_or, pos, ◌+ℤ◌}
use Rattle.ac_alloc.specs.Pointers.{level, kept}
use Rattle.ac_alloc.proofs.pointers.raised_levels.Given as goal

abbrev pub invariant-loop-b : goal.invariant-loop-b
invariant-loop-b l =
    ((k : ℕ) → k < l.b → pos (slice_index l.out k) ≡ kept (level (slice_index_or l.mask.m k (pos 0)) l.mask.floor l.t) +ℤ pos 2048) × (length l.out ≡ 50)
