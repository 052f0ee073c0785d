use Rattle.std.proofs.Common.{◌+◌, ◌-◌, ◌≡◌, ◌*◌, ◌^◌, ◌<◌, ◌≤◌, ◌++◌, length, drop}
use Rattle.ac_bits.specs.Bits.{bits, bits_of}
use Rattle.ac_bits.proofs.source.fill.Given as goal

abbrev pub invariant-loop-have : goal.invariant-loop-have
invariant-loop-have l =
    record {
      same : bits l.held l.have ++ bits_of (drop l.at l.bytes) ≡ bits l.fn.held l.fn.have ++ bits_of (drop l.fn.at l.bytes);
      at : l.at ≤ length l.bytes;
      count : l.have + 8 * (length l.bytes - l.at) ≡ l.fn.have + 8 * (length l.bytes - l.fn.at);
      small : l.have < l.width + 8;
      fits : l.held < 2 ^ l.have;
    }

abbrev pub decreases-loop-have : goal.decreases-loop-have
decreases-loop-have l = l.width + 8 - l.have
