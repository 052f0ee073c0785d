use Rattle.std.proofs.Common.{◌≡◌, ℕ, ◌<◌, ◌≤◌, pos, slice_index, slice_index_or}
use Rattle.ac_expo.specs.Raw.{raw_of}
use Rattle.ac_base.specs.Spans.{IsIn}
use Rattle.ac_expo.proofs.raws.write_row.Given as goal

abbrev pub invariant-loop-k : goal.invariant-loop-k
invariant-loop-k l =
    ((k : ℕ) → l.span.start ≤ k → k < l.k → slice_index l.out k ≡ raw_of (slice_index_or l.row k (pos 0)))
    × ((k : ℕ) → (IsIn l.span k → ⊥) → slice_index l.out k ≡ slice_index l.fn.out k)
