use Rattle.std.proofs.Common.{◌≡◌, ℕ, ◌<◌, ◌≤◌, pos, length, slice_index, slice_index_or, unsigned_abs}
use Rattle.ac_alloc.specs.Excitation.{excite}
use Rattle.ac_alloc.proofs.excitation.excite_channel.Given as goal

abbrev pub invariant-loop-b : goal.invariant-loop-b
invariant-loop-b l =
    ((k : ℕ) → k < l.b → slice_index_or l.out k (pos 0) ≡ excite l.p l.lfe (λ j. slice_index l.bndpsd j) k) × ((k : ℕ) → k < l.b → unsigned_abs (slice_index_or l.out k (pos 0)) ≤ 4416) × (length l.out ≡ 50)
