use Rattle.std.specs.Prelude.{◌≡◌, ◌++◌, drop}
use Rattle.ac_mant.specs.Groups.{closed, zeros, spelled}
use Rattle.ac_mant.proofs.Costs.{IsAhead}
use Rattle.ac_mant.proofs.packing.pack_block.Given as goal

abbrev pub invariant-loop-i : goal.invariant-loop-i
invariant-loop-i l =
    IsAhead l.ahead × ((l.sink ++ l.pen) ++ spelled zeros l.ahead (drop l.i l.list) ≡ l.initial.sink ++ spelled zeros closed l.list)
