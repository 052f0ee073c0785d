use Rattle.std.specs.Prelude.{take}
use Rattle.ac_reading.specs.Begun.{IsBegun}
use Rattle.ac_reading.specs.Kept.{KeepsExponents, KeepsPointers}
use Rattle.ac_reading.proofs.reading.read_blocks.Given as goal

abbrev pub invariant-loop-b : goal.invariant-loop-b
invariant-loop-b l =
    record {
      begun : IsBegun l.head l.b l.out l.initial.source l.source;
      exponents : KeepsExponents l.head l.b l.kept (take l.b l.out.block) l.out.exps;
      pointers : KeepsPointers l.head l.b l.kept l.out.exps l.out.baps;
    }
