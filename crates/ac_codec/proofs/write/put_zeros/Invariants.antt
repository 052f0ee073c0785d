use Rattle.std.proofs.Common.{◌≡◌, ◌-◌, ◌+◌, ◌≤◌, length, replicate, false}
use Rattle.ac_bits.specs.Bits.{Appends}
use Rattle.ac_codec.proofs.write.put_zeros.Given as goal

abbrev pub invariant-loop-more : goal.invariant-loop-more
invariant-loop-more l =
    record {
      adds : Appends l.initial.sink l.sink (replicate (l.fn.count - l.more) false);
      len : length l.sink ≡ length l.initial.sink + (l.fn.count - l.more);
      within : l.more ≤ l.fn.count;
    }

abbrev pub decreases-loop-more : goal.decreases-loop-more
decreases-loop-more l = l.more
