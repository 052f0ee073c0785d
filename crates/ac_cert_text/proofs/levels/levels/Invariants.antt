use Rattle.std.proofs.Common.{◌≡◌}
use Rattle.ac_cert_text.specs.Text.{fields_of, levels, offsets_of}
use Rattle.ac_cert_text.proofs.Loops.{front_then}
use Rattle.ac_cert_text.proofs.levels.levels.Given as goal

abbrev pub invariant-loop-alloc : goal.invariant-loop-alloc
invariant-loop-alloc l =
    front_then (offsets_of l.levels.items) ((levels (fields_of l.fn.shape) l.left).read l.cursor.rest.now) ≡ (levels (fields_of l.fn.shape) l.fn.count).read l.fn.cursor.rest.now

abbrev pub decreases-loop-alloc : goal.decreases-loop-alloc
decreases-loop-alloc l = l.left
