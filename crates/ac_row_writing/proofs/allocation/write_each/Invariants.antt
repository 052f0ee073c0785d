use Rattle.std.proofs.Common.{◌≡◌, ◌+◌, length, take}
use Rattle.ac_bits.specs.Bits.{Appends}
use Rattle.ac_codec.specs.Lists.{spelled_each}
use Rattle.ac_rows.specs.BlockRows.{zipped}
use Rattle.ac_rows.specs.Bits.{offset_bits}
use Rattle.ac_row_writing.proofs.allocation.write_each.Given as goal

abbrev pub invariant-loop-i : goal.invariant-loop-i
invariant-loop-i l =
    record {
      adds : Appends l.initial.sink l.sink (spelled_each offset_bits (take l.i (zipped l.offsets l.gains)));
      len : length l.sink ≡ length l.initial.sink + length (spelled_each offset_bits (take l.i (zipped l.offsets l.gains)));
    }
