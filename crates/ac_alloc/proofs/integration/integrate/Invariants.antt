use Rattle.std.proofs.Common.{◌≡◌, ℕ, ◌<◌, ◌≤◌, length, slice_index}
use Rattle.ac_alloc.specs.Integration.{bndpsd}
use Rattle.ac_alloc.proofs.integration.integrate.Given as goal

abbrev pub invariant-loop-b : goal.invariant-loop-b
invariant-loop-b l =
    ((k : ℕ) → k < l.b → slice_index l.out k ≡ bndpsd l.start l.end l.exps k) × ((k : ℕ) → k < l.b → slice_index l.out k ≤ 4544) × (length l.out ≡ 50)
