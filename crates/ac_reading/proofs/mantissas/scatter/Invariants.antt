use Rattle.std.proofs.Common.{◌≡◌, ℕ, ◌*◌, ◌≤◌, false, take}
use Rattle.ac_record.specs.Channels.{is_in}
use Rattle.ac_record.specs.Order.{over_channels}
use Rattle.ac_record.specs.Readings.{cell}
use Rattle.ac_reading.specs.Cells.{StaysBut}
use Rattle.ac_reading.specs.Mantissas.{span_at}
use Rattle.ac_reading.proofs.mantissas.scatter.Given as goal

abbrev pub invariant-loop-c : goal.invariant-loop-c
invariant-loop-c l =
    record {
      value : over_channels (span_at l.spans) (take l.c-index l.order) (λ c k. cell l.out c l.fn.b k) ≡ take l.at l.flat;
      few : l.at ≤ 256 * l.c-index;
      elsewhere : (c k : ℕ) → is_in (span_at l.spans c) k ≡ false → cell l.out c l.fn.b k ≡ 0;
      rest : StaysBut l.fn.b l.fn.out l.out;
    }
