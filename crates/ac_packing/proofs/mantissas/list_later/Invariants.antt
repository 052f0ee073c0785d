use Rattle.std.proofs.Common.{◌≡◌, ◌+◌, ◌-◌, ◌*◌, ◌≤◌, ◌++◌, take}
use Rattle.std.specs.List.{range_with_len}
use Rattle.ac_expo.specs.Raw.{channel_span}
use Rattle.ac_record.specs.Order.{over_channels}
use Rattle.ac_packing.specs.Listing.{mantissa_at}
use Rattle.ac_packing.proofs.mantissas.list_later.Given as goal

abbrev pub invariant-loop-c : goal.invariant-loop-c
invariant-loop-c l =
    (l.end ≤ l.at + 256 * (l.c - 1))
    × (take l.end l.list ≡ take l.at l.fn.list ++ over_channels (channel_span l.q.shape) (range_with_len 1 (l.c - 1)) (mantissa_at l.q l.b))
