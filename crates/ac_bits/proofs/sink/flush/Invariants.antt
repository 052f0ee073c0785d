use Rattle.std.proofs.Common.{◌+◌, ◌≡◌, ◌*◌, ◌^◌, ◌<◌, ◌++◌, length, take}
use Rattle.ac_bits.specs.Bits.{frame_bytes, bits, bits_of}
use Rattle.ac_bits.proofs.sink.flush.Given as goal

abbrev pub invariant-loop-used : goal.invariant-loop-used
invariant-loop-used l =
    record {
      same : bits_of (take l.full l.buf) ++ bits l.held l.used ≡ bits_of (take l.fn.full l.initial.buf) ++ bits l.fn.held l.fn.used;
      count : 8 * l.full + l.used ≡ 8 * l.fn.full + l.fn.used;
      small : l.used < 40;
      fits : l.held < 2 ^ l.used;
      whole : length l.buf ≡ frame_bytes;
    }

abbrev pub decreases-loop-used : goal.decreases-loop-used
decreases-loop-used l = l.used
