use Rattle.std.proofs.Common.{ℕ, ◌<◌, [], slice_index_or}
use Rattle.ac_expo.specs.Raw.{AreSmallInRow}
use Rattle.ac_frame.proofs.tests.drawn.are_small_rows.Given as goal

abbrev pub invariant-loop-b : goal.invariant-loop-b
invariant-loop-b l = (b : ℕ) → b < l.b → AreSmallInRow l.span (slice_index_or l.rows b [])
