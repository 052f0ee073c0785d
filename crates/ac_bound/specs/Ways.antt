-- What the rest of a coded channel's word can still be from a boundary between blocks on, and what it costs at least. This project's
-- own, as are all bounds: boundary b stands before block b, and boundary 6 is the end of the frame.
use Rattle.std.specs.Prelude.{ℕ, ◌<◌, ◌≤◌, nat_lt, if◌then◌else◌, List, [], slice_index, slice_index_or}
use Rattle.std.specs.List.{AllByRecursion}
use Rattle.ac_base.specs.declared.runs.Run.{Run}
use Rattle.ac_base.specs.declared.shapes.Shape.{Shape}
use Rattle.ac_base.specs.Spans.{greatest_kind}
use Rattle.ac_base.specs.Words.{IsWord, Tile}
use Rattle.ac_expo.specs.Raw.{channels, channel_span}
use Rattle.ac_cost.specs.Records.{AtOffset}
use Rattle.ac_cost.specs.Runs.{IsRunOf}
use Rattle.ac_cost.specs.Sixths.{runs_sixths}
use Rattle.ac_bound.specs.Least.{IsLeast}

-- runs that a coded channel can have, one behind the other from a boundary to the end of the frame
pub record IsWay (shape : Shape) (c at : ℕ) (runs : List Run) : Type 0 where
  pub tiles : Tile at 6 runs
  pub each : AllByRecursion (IsRunOf shape c) runs

-- a word of kinds that a coded channel takes
pub record IsWordOf (shape : Shape) (c : ℕ) (word : List ℕ) : Type 0 where
  pub is_word : IsWord word
  pub kinds : (block : ℕ) → block < 6 → slice_index word block ≤ greatest_kind (channel_span shape c).lead

-- the least sixths of a bit, in a part, of all ways on
abbrev pub IsLeastFrom : AtOffset → ℕ → ℕ → ℕ → ℕ → Type 0
IsLeastFrom v c part at m = IsLeast (IsWay v.shape c at) (runs_sixths v.shape v.raw v.t part c) m

-- potentials by coded channel, part and boundary: the least costs of all ways on
abbrev pub ArePots : AtOffset → (ℕ → ℕ → ℕ → ℕ) → Type 0
ArePots v pot =
    (c part at : ℕ) → c < channels v.shape → part < 3 → at ≤ 6 → IsLeastFrom v c part at (pot c part at)

-- those of a table, which has none for boundary 6: nothing follows there
abbrev pub potential : List (List (List ℕ)) → ℕ → ℕ → ℕ → ℕ
potential p c part at = if nat_lt at 6 then slice_index (slice_index_or (slice_index_or p c []) part []) at else 0
