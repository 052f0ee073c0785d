use Rattle.std.proofs.Common.{◌≡◌, ℕ, ◌+◌, ◌-◌, ◌<◌, ◌≤◌, length, slice_index}
use Rattle.ac_base.specs.Spans.{IsIn}
use Rattle.ac_reading.proofs.mantissas.scatter_row.Given as goal

abbrev pub invariant-loop-k : goal.invariant-loop-k
invariant-loop-k l =
    record {
      len : length l.row ≡ 256;
      from : l.from ≡ l.fn.at + (l.k - l.span.start);
      inside : (k : ℕ) → l.span.start ≤ k → k < l.k → slice_index l.row k ≡ slice_index l.flat (l.fn.at + (k - l.span.start));
      outside : (k : ℕ) → (IsIn l.span k → ⊥) → slice_index l.row k ≡ 0;
    }
