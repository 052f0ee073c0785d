-- What the code holds of the runs of a frame at an offset: the counts of each in one of its blocks.
use Rattle.std.specs.Prelude.{◌≡◌, ℕ, ◌*◌, ◌≤◌, List, slice_index_or}
use Rattle.ac_base.specs.declared.runs.Run.{Run}
use Rattle.ac_base.specs.declared.shapes.Shape.{Shape}
use Rattle.ac_mant.specs.declared.counts.Counts.{Counts}
use Rattle.ac_mant.specs.Counts.{tally}
use Rattle.ac_cost.specs.Runs.{IsRunOf}
use Rattle.ac_cost.specs.Pointers.{run_tally}
use Rattle.ac_cost.specs.Rows.{row_of}

-- no mantissas
abbrev pub no_counts : Counts
no_counts = record { linear = 0; n1 = 0; n2 = 0; n4 = 0 }

-- the counts of all runs of a channel by row
abbrev pub ArePriced : Shape → List (List (List ℕ)) → ℕ → ℕ → List Counts → Type 0
ArePriced shape raw t c rows =
    (run : Run) → IsRunOf shape c run → tally (slice_index_or rows (row_of run) no_counts) ≡ run_tally shape raw t c run

-- as many as the bins of n channels can have
abbrev pub AreFew : ℕ → Counts → Type 0
AreFew n counts = (counts.linear ≤ 4048 * n) × (counts.n1 ≤ 253 * n) × (counts.n2 ≤ 253 * n) × (counts.n4 ≤ 253 * n)
