use Rattle.std.proofs.Common.{◌≡◌, take}
use Rattle.ac_rows.specs.Known.{known_of}
use Rattle.ac_rows.proofs.known.known.Given as goal

abbrev pub invariant-loop-block : goal.invariant-loop-block
invariant-loop-block l = l.known ≡ known_of (take l.block-index l.earlier)
