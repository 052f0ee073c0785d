use Rattle.std.proofs.Common.{◌≡◌, ◌-◌, ◌&&◌, take, nat_le, nat_lt, length}
use Rattle.ac_codec.specs.Codec.{flag, given, each}
use Rattle.ac_codec.proofs.Loops.{front_then}
use Rattle.ac_codec.proofs.read.bits.Given as goal

abbrev pub invariant-loop-i : goal.invariant-loop-i
invariant-loop-i l =
    record {
      reads : front_then (take l.i l.all) ((each (18 - l.i) l.i (λ i. given (nat_le l.fn.from i && nat_lt i l.fn.to) flag)).read l.source)
          ≡ (each 18 0 (λ i. given (nat_le l.fn.from i && nat_lt i l.fn.to) flag)).read l.initial.source;
      whole : length l.all ≡ 18;
    }
