-- The runs of a coded channel of a shape: the blocks that share its exponents, in a frame's six blocks (A/52 5.4.3.21 to 5.4.3.23).
use Rattle.std.specs.Prelude.{◌≡◌, ℕ, ◌<◌, ◌≤◌, Bool, true, false, slice_index, ◌&&◌, nat_le, nat_lt, if◌then◌else◌, List, [], ◌∷◌}
use Rattle.ac_base.specs.declared.runs.Run.{Run}
use Rattle.ac_base.specs.declared.shapes.Shape.{Shape}
use Rattle.ac_base.specs.Words.{IsRun, IsAssignment, word_of}
use Rattle.ac_base.specs.Shape.{coded_of}
use Rattle.ac_base.specs.Spans.{greatest_kind}
use Rattle.ac_expo.specs.Raw.{channels, channel_span}

-- a run that a coded channel can have: its channel takes the kind
pub record IsRunOf (shape : Shape) (c : ℕ) (run : Run) : Type 0 where
  pub channel : c < channels shape
  pub is_run : IsRun run
  pub taken : run.kind ≤ greatest_kind (channel_span shape c).lead

-- the run has the block
abbrev pub has : Run → ℕ → Bool
has run b = nat_le run.from b && nat_lt b run.to

-- the first of these runs that has the block; of the runs of a word one alone has it
abbrev pub run_with : List Run → ℕ → Run
run_with [] b = record { from = 0; to = 0; kind = 0 }
run_with (run ∷ runs) b = if has run b then run else run_with runs b

-- a word for each coded channel of the shape
abbrev pub IsAssignmentOf : Shape → List (List ℕ) → Type 0
IsAssignmentOf shape assign = IsAssignment shape.acmod shape.lfe shape.bw shape.couple assign

-- LFE's codes are 0 and 1: what is asked of words for all coded channels, since other channels take each kind
abbrev pub TakesLow : Shape → List (List ℕ) → Type 0
TakesLow shape assign =
    shape.lfe ≡ true → (block : ℕ) → block < 6 → slice_index (word_of assign (coded_of shape.acmod false shape.couple)) block ≤ 1
