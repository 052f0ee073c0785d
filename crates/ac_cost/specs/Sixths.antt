-- What a run costs by itself, in sixths of a bit: each mantissa with its share of a group. This project's own, for bounds of what can
-- still fit. The parts are numbered: 0 the front, blocks 0 and 1; 1 the whole frame; 2 the mantissas of block 5.
use Rattle.std.specs.Prelude.{ℕ, ◌+◌, ◌*◌, ◌==◌, nat_lt, if◌then◌else◌, List, [], ◌∷◌}
use Rattle.ac_base.specs.declared.runs.Run.{Run}
use Rattle.ac_base.specs.declared.shapes.Shape.{Shape}
use Rattle.ac_base.specs.declared.sizes.Parts.{Parts}
use Rattle.ac_base.specs.Counts.{sixths_of}
use Rattle.ac_base.specs.Fit.{exponent_bits, side_of}
use Rattle.ac_base.specs.Sigma.{sum_below}
use Rattle.ac_base.specs.Words.{runs_of, word_of}
use Rattle.ac_expo.specs.Raw.{channels, channel_span}
use Rattle.ac_cost.specs.Runs.{has}
use Rattle.ac_cost.specs.Pointers.{run_tally}

-- a part by its number
abbrev pub part_of : Parts → ℕ → ℕ
part_of parts part = if part == 0 then parts.front else if part == 1 then parts.total else parts.last

-- the exponent bits of a run (A/52 5.3.3, 7.1.3)
abbrev pub run_bits : Shape → ℕ → Run → ℕ
run_bits shape c run = exponent_bits run.kind (channel_span shape c)

-- so many bits of exponents count once, in the block that sends them
abbrev pub sent_in : ℕ → Run → ℕ → ℕ
sent_in part run bits = if part == 0 then (if nat_lt run.from 2 then bits else 0) else if part == 1 then bits else 0

abbrev pub bits_in : Shape → ℕ → ℕ → Run → ℕ
bits_in shape part c run = sent_in part run (run_bits shape c run)

-- a cost for each block of the run among the first n
abbrev pub in_blocks : ℕ → Run → ℕ → ℕ
in_blocks n run cost = sum_below n (λ b. if has run b then cost else 0)

-- a cost for each block of the run that the part counts
abbrev pub in_part : ℕ → Run → ℕ → ℕ
in_part part run cost =
    if part == 0 then in_blocks 2 run cost else if part == 1 then in_blocks 6 run cost else if has run 5 then cost else 0

-- what a run costs in a part, by the bits of its exponents and the sixths of its mantissas in one of its blocks
abbrev pub costs_in : ℕ → ℕ → Run → ℕ → ℕ
costs_in part exponents run mantissas = 6 * sent_in part run exponents + in_part part run mantissas

-- in each part
abbrev pub costs_by_part : ℕ → Run → ℕ → List ℕ
costs_by_part exponents run mantissas =
    costs_in 0 exponents run mantissas ∷ costs_in 1 exponents run mantissas ∷ costs_in 2 exponents run mantissas ∷ []

-- the sixths of a run of a coded channel in a part
abbrev pub run_sixths : Shape → List (List (List ℕ)) → ℕ → ℕ → ℕ → Run → ℕ
run_sixths shape raw t part c run = 6 * bits_in shape part c run + in_part part run (sixths_of (run_tally shape raw t c run))

-- in each part
abbrev pub sixths_by_part : Shape → List (List (List ℕ)) → ℕ → ℕ → Run → List ℕ
sixths_by_part shape raw t c run =
    run_sixths shape raw t 0 c run ∷ run_sixths shape raw t 1 c run ∷ run_sixths shape raw t 2 c run ∷ []

-- of a list of runs of a coded channel
abbrev pub runs_sixths : Shape → List (List (List ℕ)) → ℕ → ℕ → ℕ → List Run → ℕ
runs_sixths shape raw t part c [] = 0
runs_sixths shape raw t part c (run ∷ runs) = run_sixths shape raw t part c run + runs_sixths shape raw t part c runs

-- the sixths of an assignment in a part: the side bits, and all its runs
abbrev pub assign_sixths : Shape → List (List (List ℕ)) → ℕ → ℕ → List (List ℕ) → ℕ
assign_sixths shape raw t part assign =
    6 * part_of (side_of shape.acmod shape.lfe shape.couple) part
    + sum_below (channels shape) (λ c. runs_sixths shape raw t part c (runs_of (word_of assign c)))
