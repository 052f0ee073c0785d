use Rattle.std.proofs.Common.{◌≡◌, ◌*◌, ◌≤◌, take}
use Rattle.ac_record.specs.Order.{over_channels}
use Rattle.ac_record.specs.Readings.{cell}
use Rattle.ac_reading.specs.Mantissas.{span_at}
use Rattle.ac_reading.proofs.mantissas.gather.Given as goal

abbrev pub invariant-loop-c : goal.invariant-loop-c
invariant-loop-c l =
    (take l.at l.flat ≡ over_channels (span_at l.spans) (take l.c-index l.order) (λ c k. cell l.baps c l.fn.b k))
    × (l.at ≤ 256 * l.c-index)
