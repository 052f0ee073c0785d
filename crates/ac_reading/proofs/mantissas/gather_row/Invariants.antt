use Rattle.std.proofs.Common.{◌≡◌, ◌+◌, ◌-◌, ◌++◌, take, slice_index}
use Rattle.std.specs.Prelude.{map}
use Rattle.std.specs.List.{range_with_len}
use Rattle.ac_reading.proofs.mantissas.gather_row.Given as goal

abbrev pub invariant-loop-k : goal.invariant-loop-k
invariant-loop-k l =
    (l.to ≡ l.fn.at + (l.k - l.span.start))
    × (take l.to l.flat ≡ take l.fn.at l.fn.flat ++ map (slice_index l.row) (range_with_len l.span.start (l.k - l.span.start)))
