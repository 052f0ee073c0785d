use Rattle.std.proofs.Common.{◌≡◌, [], length, reverse}
use Rattle.ac_cert_text.specs.TreeText.{grow}
use Rattle.ac_cert_text.proofs.grow.tree.Given as goal

abbrev pub invariant-loop-byte : goal.invariant-loop-byte
invariant-loop-byte l = grow (reverse l.open.items) l.cursor.rest.now ≡ grow [] l.fn.cursor.rest.now

abbrev pub decreases-loop-byte : goal.decreases-loop-byte
decreases-loop-byte l = length l.cursor.rest.now
