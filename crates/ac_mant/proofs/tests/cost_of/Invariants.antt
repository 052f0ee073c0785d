use Rattle.std.specs.Prelude.{◌≡◌, drop}
use Rattle.ac_base.specs.Counts.{tally_of}
use Rattle.ac_mant.specs.Counts.{tally}
use Rattle.ac_mant.specs.Groups.{AreCoded, pointers}
use Rattle.ac_mant.proofs.tests.cost_of.Given as goal

abbrev pub invariant-loop-i : goal.invariant-loop-i
invariant-loop-i l = AreCoded (drop l.i l.list) × (tally l.counts ≡ tally_of (pointers (drop l.i l.list)))
