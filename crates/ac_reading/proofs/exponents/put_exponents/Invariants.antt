use Rattle.std.proofs.Common.{◌≡◌, ℕ, ◌<◌, ◌≤◌, [], slice_index_or}
use Rattle.std.specs.Prelude.{if◌then◌else◌}
use Rattle.ac_alloc.specs.Integration.{AreExponents}
use Rattle.ac_rows.specs.Filled.{span_in}
use Rattle.ac_record.specs.Channels.{is_in}
use Rattle.ac_record.specs.Held.{exponent_in}
use Rattle.ac_record.specs.Readings.{cell}
use Rattle.ac_reading.specs.Cells.{StaysBut}
use Rattle.ac_reading.proofs.exponents.put_exponents.Given as goal

abbrev pub invariant-loop-c : goal.invariant-loop-c
invariant-loop-c l =
    record {
      value : (c k : ℕ) → c < l.c → cell l.out c l.fn.b k ≡ (if is_in (span_in l.head l.filled c) k then exponent_in l.head l.earlier l.block c k else 0);
      bound : (c : ℕ) → c < l.c → AreExponents (span_in l.head l.filled c).start (span_in l.head l.filled c).end (slice_index_or (slice_index_or l.out c []) l.fn.b []);
      blank : (c k : ℕ) → l.c ≤ c → cell l.out c l.fn.b k ≡ 0;
      rest : StaysBut l.fn.b l.fn.out l.out;
    }
