use Rattle.std.proofs.Common.{◌≡◌, ◌+◌, length, take}
use Rattle.ac_bits.specs.Bits.{bits, Appends}
use Rattle.ac_codec.specs.Lists.{spelled_each}
use Rattle.ac_row_writing.proofs.exponent.put_groups.Given as goal

abbrev pub invariant-loop-group : goal.invariant-loop-group
invariant-loop-group l =
    record {
      adds : Appends l.initial.sink l.sink (spelled_each (λ g. bits g 7) (take l.group-index l.groups));
      len : length l.sink ≡ length l.initial.sink + length (spelled_each (λ g. bits g 7) (take l.group-index l.groups));
    }
