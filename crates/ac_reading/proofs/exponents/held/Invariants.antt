use Rattle.std.proofs.Common.{◌≡◌, take}
use Rattle.ac_rows.specs.Filled.{latest}
use Rattle.ac_record.specs.Held.{sent_exponents}
use Rattle.ac_reading.proofs.exponents.held.Given as goal

abbrev pub invariant-loop-before : goal.invariant-loop-before
invariant-loop-before l = l.kept ≡ latest (sent_exponents l.head l.filled l.fn.c) (take l.before-index l.earlier)
