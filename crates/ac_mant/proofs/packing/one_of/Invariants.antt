use Rattle.std.specs.Prelude.{◌≡◌, drop}
use Rattle.ac_mant.specs.Groups.{coming}
use Rattle.ac_mant.proofs.packing.one_of.Given as goal

abbrev pub invariant-loop-x : goal.invariant-loop-x
invariant-loop-x l = coming l.bap l.rest ≡ coming l.bap (drop l.x-index l.rest)
