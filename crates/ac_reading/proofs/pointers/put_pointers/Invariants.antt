use Rattle.std.proofs.Common.{◌≡◌, ℕ, ◌<◌, ◌≤◌}
use Rattle.ac_record.specs.Readings.{cell}
use Rattle.ac_reading.specs.Cells.{StaysBut}
use Rattle.ac_reading.specs.Kept.{RowsIn, pointer_by}
use Rattle.ac_reading.proofs.pointers.put_pointers.Given as goal

abbrev pub invariant-loop-c : goal.invariant-loop-c
invariant-loop-c l =
    record {
      value : RowsIn l.head l.filled l.fn.b l.out (pointer_by l.head l.filled l.fn.b l.exps) l.c;
      small : (c k : ℕ) → cell l.out c l.fn.b k ≤ 15;
      blank : (c k : ℕ) → l.c ≤ c → cell l.out c l.fn.b k ≡ 0;
      rest : StaysBut l.fn.b l.fn.out l.out;
    }
