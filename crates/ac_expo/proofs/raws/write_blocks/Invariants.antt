use Rattle.std.proofs.Common.{◌≡◌, ℕ, ◌<◌, [], length, slice_index_or}
use Rattle.ac_expo.specs.Raw.{AreRawInRow, KeepsOutside}
use Rattle.ac_expo.proofs.raws.write_blocks.Given as goal

abbrev pub invariant-loop-b : goal.invariant-loop-b
invariant-loop-b l =
    (length l.out ≡ 6)
    × ((b : ℕ) → b < l.b → AreRawInRow l.span (slice_index_or l.rows b []) (slice_index_or l.out b []))
    × KeepsOutside l.span l.fn.out l.out
