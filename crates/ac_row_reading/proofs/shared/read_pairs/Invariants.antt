use Rattle.std.proofs.Common.{◌≡◌, ◌-◌, take, length}
use Rattle.ac_codec.specs.Codec.{each}
use Rattle.ac_codec.proofs.Loops.{front_then}
use Rattle.ac_rows.specs.BlockRows.{zipped}
use Rattle.ac_rows.proofs.Pairs.{two}
use Rattle.ac_row_reading.proofs.shared.read_pairs.Given as goal

abbrev pub invariant-loop-k : goal.invariant-loop-k
invariant-loop-k l =
    record {
      told : front_then (zipped (take l.k l.exps) (take l.k l.mants)) ((each (18 - l.k) l.k (two l.fn.bands)).read l.source)
          ≡ (each 18 0 (two l.fn.bands)).read l.initial.source;
      exps : length l.exps ≡ 18;
      mants : length l.mants ≡ 18;
    }
