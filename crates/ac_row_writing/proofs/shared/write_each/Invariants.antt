use Rattle.std.proofs.Common.{◌≡◌, ◌+◌, length, take}
use Rattle.ac_bits.specs.Bits.{Appends}
use Rattle.ac_codec.specs.Lists.{spelled_each}
use Rattle.ac_rows.specs.BlockRows.{zipped}
use Rattle.ac_rows.specs.Bits.{coordinate_bits}
use Rattle.ac_row_writing.proofs.shared.write_each.Given as goal

abbrev pub invariant-loop-k : goal.invariant-loop-k
invariant-loop-k l =
    record {
      adds : Appends l.initial.sink l.sink (spelled_each coordinate_bits (take l.k (zipped l.exps l.mants)));
      len : length l.sink ≡ length l.initial.sink + length (spelled_each coordinate_bits (take l.k (zipped l.exps l.mants)));
    }
