use Rattle.std.proofs.Common.{◌≡◌, ◌-◌, length}
use Rattle.ac_codec.specs.Codec.{field, any, each}
use Rattle.ac_codec.proofs.Loops.{front_then}
use Rattle.ac_row_reading.proofs.exponent.take_spelled.Given as goal

abbrev pub invariant-loop-place : goal.invariant-loop-place
invariant-loop-place l =
    record {
      told : front_then l.spelled.groups ((each (l.count - l._place) l._place (λ _. field 7 any)).read l.source)
          ≡ (each l.count 0 (λ _. field 7 any)).read l.initial.source;
      first : l.spelled.first ≡ l.initial.spelled.first;
      count : length l.spelled.groups ≡ l._place;
    }
