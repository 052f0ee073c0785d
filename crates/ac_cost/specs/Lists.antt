-- What the code holds of the runs of a frame: their lists of exponents and their masks, which don't depend on the offset.
use Rattle.std.specs.Prelude.{◌≡◌, ℕ, ◌<◌, ◌≤◌, pos, List, [], slice_index, slice_index_or}
use Rattle.ac_base.specs.declared.runs.Run.{Run}
use Rattle.ac_base.specs.declared.shapes.Shape.{Shape}
use Rattle.ac_base.specs.Spans.{IsIn}
use Rattle.ac_base.specs.Allocation.{bins}
use Rattle.ac_expo.specs.Raw.{channel_span}
use Rattle.ac_alloc.specs.Codes.{encoder_params, floor_of}
use Rattle.ac_alloc.specs.Integration.{AreExponents}
use Rattle.ac_alloc.specs.Masking.{mask, first_band, last_band}
use Rattle.ac_cost.specs.declared.listed.Listed.{Listed}
use Rattle.ac_cost.specs.Runs.{IsRunOf}
use Rattle.ac_cost.specs.Pointers.{run_exps}
use Rattle.ac_cost.specs.Rows.{row_of, rows_of}

-- the exponents of a run and its mask
pub record IsListed (shape : Shape) (raw : List (List (List ℕ))) (c : ℕ) (run : Run) (listed : Listed) : Type 0 where
  pub exps : (k : ℕ) → IsIn (channel_span shape c) k → slice_index listed.exps k ≡ slice_index (run_exps shape raw c run) k
  pub masks : (b : ℕ) → first_band (channel_span shape c) ≤ b → b ≤ last_band (channel_span shape c)
      → slice_index_or listed.mask.m b (pos 0) ≡ mask (encoder_params shape.fscod shape.sampling) (channel_span shape c) listed.exps b
  pub floor : listed.mask.floor ≡ floor_of (encoder_params shape.fscod shape.sampling)

-- nothing is held
abbrev pub not_listed : Listed
not_listed = record { exps = []; mask = record { m = []; floor = pos 0 } }

-- all runs of a channel by row
pub record AreListed (shape : Shape) (raw : List (List (List ℕ))) (c : ℕ) (rows : List Listed) : Type 0 where
  pub lists : (run : Run) → IsRunOf shape c run → IsListed shape raw c run (slice_index_or rows (row_of run) not_listed)
  pub small : (row : ℕ) → row < rows_of (channel_span shape c).lead → AreExponents 0 bins (slice_index_or rows row not_listed).exps
