-- How the runs of a coded channel are held: for each run, in its row, the levels of its exponents and the bases of its masks, off which
-- its costs are read at every offset. This project's own.
use Rattle.std.specs.Prelude.{◌≡◌, ℕ, ◌+◌, ◌/◌, ◌<◌, ◌≤◌, List, [], slice_index, slice_index_or}
use Rattle.ac_base.specs.declared.shapes.Shape.{Shape}
use Rattle.ac_base.specs.declared.spans.Span.{Span}
use Rattle.ac_base.specs.Allocation.{masktab_list}
use Rattle.ac_base.specs.Spans.{IsIn}
use Rattle.ac_expo.specs.Raw.{channel_span}
use Rattle.ac_alloc.specs.declared.params.Params.{Params}
use Rattle.ac_alloc.specs.Codes.{encoder_params}
use Rattle.ac_alloc.specs.Masking.{IsLevel, mask}
use Rattle.ac_cost.specs.Pointers.{run_exps}
use Rattle.ac_cost.specs.Rows.{run_of, rows_of}
use Rattle.ac_sixths.specs.Runs.{column, level_of, base_of, AreHeld, IsRun}

-- the levels of exponents
abbrev pub AreLevelsOf : Span → List ℕ → List ℕ → Type 0
AreLevelsOf s exps levels = (k : ℕ) → IsIn s k → (slice_index exps k ≤ 24) × (slice_index levels k ≡ level_of (slice_index exps k))

-- the bases of the masks of a coded channel with these exponents
abbrev pub AreBasesOf : Params → Span → List ℕ → List ℕ → Type 0
AreBasesOf p s exps bases =
    (k : ℕ) → IsIn s k
    → IsLevel (mask p s exps (slice_index masktab_list k))
    × (slice_index bases (slice_index masktab_list k) ≡ base_of (mask p s exps (slice_index masktab_list k)))

-- bases by levels: those of whatever exponents have these levels
pub record AreBases (p : Params) (s : Span) (levels bases : List ℕ) : Type 0 where
  pub bound : (b : ℕ) → b < 50 → slice_index bases b ≤ 2232
  pub value : (exps : List ℕ) → AreLevelsOf s exps levels → AreBasesOf p s exps bases

-- a row holds its run
pub record IsHeldRow (shape : Shape) (raw : List (List (List ℕ))) (c row : ℕ) (levels bases : List ℕ) : Type 0 where
  pub small : AreHeld (row / 21 + 1) (channel_span shape c) levels bases
  pub run : IsRun (encoder_params shape.fscod shape.sampling) (channel_span shape c) (run_exps shape raw c (run_of row)) levels bases

-- each row of a channel holds its run; bases stand by band and row
abbrev pub IsHeld : Shape → List (List (List ℕ)) → ℕ → List (List ℕ) → List (List ℕ) → Type 0
IsHeld shape raw c levels bases =
    (row : ℕ) → row < rows_of (channel_span shape c).lead → IsHeldRow shape raw c row (slice_index_or levels row []) (column bases row)
