use Rattle.std.proofs.Common.{◌≡◌, ℕ, ◌<◌, ◌≤◌, [], length, slice_index_or}
use Rattle.ac_cost.specs.Records.{AtOffset}
use Rattle.ac_bound.specs.Ways.{IsLeastFrom}
use Rattle.ac_ways.specs.Columns.{entry_of, AreCosts, AreFewFrom}
use Rattle.ac_ways.proofs.filled.channel_ways.Given as goal

abbrev pub invariant-loop-part : goal.invariant-loop-part
invariant-loop-part l = record {
  long : length l.out ≡ 3;
  value : (v : AtOffset) (c part at j : ℕ) → AreCosts v c l.kinds l.rows j → part < l.part → at ≤ 6
      → IsLeastFrom v c part at (entry_of (slice_index_or l.out part []) at j);
  few : (part : ℕ) → part < l.part → AreFewFrom 0 (slice_index_or l.out part []);
}
