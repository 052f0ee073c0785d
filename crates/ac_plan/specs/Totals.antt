-- What a uniform assignment costs in sixths of a bit, run by run over all coded channels at once. This project's own.
use Rattle.std.specs.Prelude.{◌≡◌, ℕ, false, ◌+◌, ◌*◌, ◌^◌, ◌<◌, ◌≤◌, if◌then◌else◌, List, [], ◌∷◌, slice_index, slice_index_or}
use Rattle.ac_base.specs.declared.runs.Run.{Run}
use Rattle.ac_base.specs.declared.shapes.Shape.{Shape}
use Rattle.ac_base.specs.Fit.{side_of}
use Rattle.ac_base.specs.Shape.{coded_of}
use Rattle.ac_base.specs.Sigma.{sum_below}
use Rattle.ac_base.specs.Words.{IsRun}
use Rattle.ac_cost.specs.Records.{AtOffset}
use Rattle.ac_cost.specs.Rows.{row_of}
use Rattle.ac_cost.specs.Sixths.{part_of, run_sixths}

-- the coded channels but LFE
abbrev pub others_of : Shape → ℕ
others_of shape = coded_of shape.acmod false shape.couple

-- LFE's run beside one of theirs
abbrev pub low_run : Run → Run
low_run run = record { from = run.from; to = run.to; kind = 1 }

-- what a run costs in a part, in all coded channels together
abbrev pub beside_sixths : AtOffset → ℕ → Run → ℕ
beside_sixths v part run =
    sum_below (others_of v.shape) (λ c. run_sixths v.shape v.raw v.t part c run)
    + (if v.shape.lfe then run_sixths v.shape v.raw v.t part (others_of v.shape) (low_run run) else 0)

-- of a list of runs
abbrev pub runs_beside : AtOffset → ℕ → List Run → ℕ
runs_beside v part [] = 0
runs_beside v part (run ∷ runs) = beside_sixths v part run + runs_beside v part runs

-- at each row those of its run, in each part
abbrev pub AreTotals : AtOffset → List (List ℕ) → Type 0
AreTotals v rows =
    (run : Run) (part : ℕ) → IsRun run → part < 3 → slice_index (slice_index_or rows (row_of run) []) part ≡ beside_sixths v part run

-- no run costs more
abbrev pub AreFewTotals : List (List ℕ) → Type 0
AreFewTotals rows = (row part : ℕ) → row < 63 → part < 3 → slice_index (slice_index_or rows row []) part ≤ 2 ^ 22

-- the sixths of the side bits in each part
pub record AreSides (shape : Shape) (sides : List ℕ) : Type 0 where
  pub value : (part : ℕ) → part < 3 → slice_index sides part ≡ 6 * part_of (side_of shape.acmod shape.lfe shape.couple) part
  pub few : (part : ℕ) → part < 3 → slice_index sides part ≤ 6 * 2 ^ 32
