use Rattle.std.proofs.Common.{◌≡◌, ◌<◌, ◌/◌, ◌%◌, ℕ, slice_index, length}
use Rattle.ac_sixths.specs.Pairs.{pair_sixths}
use Rattle.ac_sixths.proofs.pair_table.pair_entries.Given as goal

abbrev pub invariant-loop-n : goal.invariant-loop-n
invariant-loop-n l =
    ((j : ℕ) → j < l.n → slice_index l.f j ≡ pair_sixths (j / 4128) (j % 4128)) × (length l.f ≡ 20640)
