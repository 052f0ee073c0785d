use Rattle.std.proofs.Common.{ℕ, refl, sym, ◌∙◌}
use Rattle.ac_alloc.proofs.Lists.{of_equal}
use Rattle.ac_sixths.proofs.Keyed.{low_sixths}
use Rattle.ac_sixths.proofs.table.low_entries.Goals as goal

pub loop-i-init : goal.loop-i-init
loop-i-init c = record { long = refl; done = λ (j : ℕ) l. of_equal 0 4128 j ∙ sym (low_sixths j l) }
