use Rattle.std.specs.Prelude.{◌≡◌, take, drop, length}
use Rattle.ac_mant.specs.Unpacking.{nothing, read_from, with_front}
use Rattle.ac_mant.proofs.unpacking.read_window.Given as goal

abbrev pub invariant-loop-i : goal.invariant-loop-i
invariant-loop-i l =
    (length l.out ≡ length l.baps)
    × (with_front (take l.i l.out) (read_from l.held l.i (drop l.i l.baps) l.window) ≡ read_from nothing 0 l.baps l.initial.window)
