use Rattle.std.proofs.Common.{◌≡◌, ℕ, ◌-◌, ◌<◌, ◌≤◌, pos, length, slice_index, slice_index_or, unsigned_abs}
use Rattle.ac_alloc.specs.Excitation.{leak_from}
use Rattle.ac_alloc.proofs.Leaking.{so_far}
use Rattle.ac_alloc.proofs.leaks.leaks.Given as goal

abbrev pub invariant-loop-b : goal.invariant-loop-b
invariant-loop-b l =
    (l.leak ≡ so_far l.start (λ j. slice_index l.bndpsd j) l.gain l.decay l.from (l.b - l.from)) × (unsigned_abs l.leak ≤ 4416) × ((k : ℕ) → l.from ≤ k → k < l.b → slice_index_or l.out k (pos 0) ≡ leak_from l.start (λ j. slice_index l.bndpsd j) l.gain l.decay l.from k) × ((k : ℕ) → l.from ≤ k → k < l.b → unsigned_abs (slice_index_or l.out k (pos 0)) ≤ 4416) × (length l.out ≡ 50)
