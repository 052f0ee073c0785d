use Rattle.std.proofs.Common.{◌≡◌, ℕ, ◌<◌, false, slice_index_or}
use Rattle.ac_base.specs.declared.runs.Run.{Run}
use Rattle.ac_cost.specs.Runs.{has}
use Rattle.ac_coding.proofs.runs.find.Given as goal

abbrev pub invariant-loop-run : goal.invariant-loop-run
invariant-loop-run l = (j : ℕ) (d : Run) → j < l.run-index → has (slice_index_or l.runs j d) l.block ≡ false
