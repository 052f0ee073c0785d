use Rattle.std.proofs.Common.{◌≡◌, take}
use Rattle.ac_base.specs.Counts.{tally_of}
use Rattle.ac_mant.specs.Counts.{tally}
use Rattle.ac_mant.specs.Groups.{pointers}
use Rattle.ac_packing.proofs.parts.cost.Given as goal

abbrev pub invariant-loop-i : goal.invariant-loop-i
invariant-loop-i l = tally l.counts ≡ tally_of (pointers (take l.i l.list))
