use Rattle.std.proofs.Common.{◌≡◌, ◌<◌, ℕ, pos, ◌-ℤ◌, slice_index, length}
use Rattle.ac_sixths.specs.Keys.{sixths}
use Rattle.ac_sixths.proofs.table.low_entries.Given as goal

abbrev pub invariant-loop-i : goal.invariant-loop-i
invariant-loop-i l = record { long : length l.f ≡ 4128; done : (j : ℕ) → j < l.i → slice_index l.f j ≡ sixths (pos 3000 -ℤ pos j) }
