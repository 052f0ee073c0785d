-- The bit allocation pointers of a frame (A/52 7.2) by its shape, the raw exponents of its coefficients, the assignment of strategies
-- and the SNR offset t = 16 csnroffst + fsnroffst.
use Rattle.std.specs.Prelude.{ℕ, ◌==◌, if◌then◌else◌, List, [], map, slice_index_or}
use Rattle.std.specs.List.{range_with_len}
use Rattle.ac_base.specs.declared.runs.Run.{Run}
use Rattle.ac_base.specs.declared.shapes.Shape.{Shape}
use Rattle.ac_base.specs.Allocation.{bins}
use Rattle.ac_base.specs.Counts.{Tally}
use Rattle.ac_base.specs.Fit.{tally_span}
use Rattle.ac_base.specs.Words.{runs_of, word_of}
use Rattle.ac_expo.specs.Raw.{channel_span}
use Rattle.ac_expo.specs.Greatest.{exponent_of}
use Rattle.ac_alloc.specs.Codes.{encoder_params}
use Rattle.ac_alloc.specs.Pointers.{bap_at}
use Rattle.ac_cost.specs.Runs.{run_with}

-- the exponents of a run of a coded channel, by bin: the greatest list that its kind can spell under the raw exponents of its blocks
unfoldable pub run_exps : Shape → List (List (List ℕ)) → ℕ → Run → List ℕ
run_exps shape raw c run =
    map (exponent_of run.kind (channel_span shape c) (slice_index_or raw c []) run.from run.to) (range_with_len 0 bins)

-- the pointer of a bin in each block of a run; offset 0 has all SNR offset codes 0, for which all pointers are 0 (A/52 7.2.2.7)
unfoldable pub run_bap : Shape → List (List (List ℕ)) → ℕ → ℕ → Run → ℕ → ℕ
run_bap shape raw t c run bin =
    if t == 0 then 0 else bap_at (encoder_params shape.fscod shape.sampling) (channel_span shape c) (run_exps shape raw c run) bin t

-- the mantissas of a run in one of its blocks
abbrev pub run_tally : Shape → List (List (List ℕ)) → ℕ → ℕ → Run → Tally
run_tally shape raw t c run = tally_span (run_bap shape raw t c run) (channel_span shape c)

-- the pointers of a frame by coded channel, block and bin: those of the run that has the block
abbrev pub pointers : Shape → List (List (List ℕ)) → ℕ → List (List ℕ) → ℕ → ℕ → ℕ → ℕ
pointers shape raw t assign c b bin = run_bap shape raw t c (run_with (runs_of (word_of assign c)) b) bin
