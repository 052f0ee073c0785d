use Rattle.std.proofs.Common.{◌≡◌, take}
use Rattle.ac_syntax.specs.Latest.{latest_block}
use Rattle.ac_syntax.proofs.latest.latest.Given as goal

abbrev pub invariant-loop-before : goal.invariant-loop-before
invariant-loop-before l = l.kept ≡ latest_block l.block (take l.before-index l.earlier)
