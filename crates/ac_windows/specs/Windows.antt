-- What the mantissas of all runs of a frame cost at sixteen SNR offsets side by side, in sixths of a bit. This project's own.
use Rattle.std.specs.Prelude.{◌≡◌, ℕ, ◌+◌, ◌<◌, List, [], slice_index, slice_index_or}
use Rattle.ac_base.specs.declared.runs.Run.{Run}
use Rattle.ac_base.specs.declared.shapes.Shape.{Shape}
use Rattle.ac_base.specs.Counts.{sixths_of}
use Rattle.ac_cost.specs.Pointers.{run_tally}
use Rattle.ac_cost.specs.Rows.{row_of}
use Rattle.ac_cost.specs.Runs.{IsRunOf}

-- the sixths of a run's mantissas in one of its blocks, which are the same in each
abbrev pub block_sixths : Shape → List (List (List ℕ)) → ℕ → ℕ → Run → ℕ
block_sixths shape raw t c run = sixths_of (run_tally shape raw t c run)

-- an entry of a window: by coded channel, row of the run, and how far the offset is above the window's first
abbrev pub entry_of : List (List (List ℕ)) → ℕ → ℕ → ℕ → ℕ
entry_of six c row j = slice_index (slice_index_or (slice_index_or six c []) row []) j

-- the window from offset t0 on: at each entry the sixths of its run at its offset
abbrev pub IsWindow : Shape → List (List (List ℕ)) → ℕ → List (List (List ℕ)) → Type 0
IsWindow shape raw t0 six =
    (c : ℕ) (run : Run) (j : ℕ) → IsRunOf shape c run → j < 16 → entry_of six c (row_of run) j ≡ block_sixths shape raw (t0 + j) c run
