use Rattle.std.proofs.Common.{◌≡◌, ◌+◌, length, take}
use Rattle.ac_bits.specs.Bits.{Appends}
use Rattle.ac_codec.specs.Lists.{spelled_each}
use Rattle.ac_rows.specs.BlockRows.{joined_channels}
use Rattle.ac_rows.specs.Bits.{channel_bits}
use Rattle.ac_row_writing.proofs.shared.write_channels.Given as goal

abbrev pub invariant-loop-i : goal.invariant-loop-i
invariant-loop-i l =
    record {
      adds : Appends l.initial.sink l.sink (spelled_each channel_bits (take l.i (joined_channels l.coes l.masters l.exps l.mants)));
      len : length l.sink ≡ length l.initial.sink + length (spelled_each channel_bits
          (take l.i (joined_channels l.coes l.masters l.exps l.mants)));
    }
