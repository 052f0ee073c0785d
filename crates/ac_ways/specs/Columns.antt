-- What the runs of a coded channel cost at sixteen offsets side by side. This project's own.
use Rattle.std.specs.Prelude.{◌≡◌, ℕ, ◌-◌, ◌*◌, ◌^◌, ◌<◌, ◌≤◌, List, [], slice_index, slice_index_or}
use Rattle.ac_base.specs.declared.runs.Run.{Run}
use Rattle.ac_base.specs.Counts.{sixths_of}
use Rattle.ac_base.specs.Fit.{exponent_bits}
use Rattle.ac_expo.specs.Raw.{channels, channel_span}
use Rattle.ac_cost.specs.Records.{AtOffset}
use Rattle.ac_cost.specs.Rows.{row_of}
use Rattle.ac_cost.specs.Runs.{IsRunOf}
use Rattle.ac_cost.specs.Pointers.{run_tally}
use Rattle.ac_bound.specs.Steps.{kinds_of}
use Rattle.ac_ways.specs.declared.kinds.Kinds.{Kinds}

-- by row or boundary, and offset
abbrev pub entry_of : List (List ℕ) → ℕ → ℕ → ℕ
entry_of rows row j = slice_index (slice_index_or rows row []) j

-- column j has what the runs of coded channel c cost at an offset
pub record AreCosts (v : AtOffset) (c : ℕ) (kinds : Kinds) (rows : List (List ℕ)) (j : ℕ) : Type 0 where
  pub channel : c < channels v.shape
  pub column : j < 16
  pub count : kinds.count ≡ kinds_of v.shape c
  pub bits : (kind : ℕ) → 1 ≤ kind → kind ≤ kinds.count → slice_index kinds.bits kind ≡ exponent_bits kind (channel_span v.shape c)
  pub six : (run : Run) → IsRunOf v.shape c run → entry_of rows (row_of run) j ≡ sixths_of (run_tally v.shape v.raw v.t c run)

-- what is known from a boundary on isn't more than the runs of the blocks behind it can cost
abbrev pub AreFewFrom : ℕ → List (List ℕ) → Type 0
AreFewFrom at rows = (k j : ℕ) → at ≤ k → k ≤ 6 → j < 16 → entry_of rows k j ≤ (6 - k) * 2 ^ 19
