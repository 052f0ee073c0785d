use Rattle.std.proofs.Common.{◌≡◌, ◌*◌, drop}
use Rattle.ac_mant.proofs.window.skip.Given as goal

abbrev pub invariant-loop-turn : goal.invariant-loop-turn
invariant-loop-turn l = l.source ≡ drop (32 * l._turn) l.initial.source
