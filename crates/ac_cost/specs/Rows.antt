-- How the runs of a coded channel are numbered: by kind, and within a kind by the first block and then by the end. This project's own,
-- for the code.
use Rattle.std.specs.Prelude.{ℕ, ◌+◌, ◌-◌, ◌*◌, ◌/◌, ◌%◌, List, [], ◌∷◌, slice_index}
use Rattle.ac_base.specs.declared.runs.Run.{Run}
use Rattle.ac_base.specs.declared.spans.Lead.{Lead}
use Rattle.ac_base.specs.Spans.{greatest_kind}

-- the first block of each of the 21 ranges of blocks, and the block behind its last
abbrev pub froms : List ℕ
froms = 0 ∷ 0 ∷ 0 ∷ 0 ∷ 0 ∷ 0 ∷ 1 ∷ 1 ∷ 1 ∷ 1 ∷ 1 ∷ 2 ∷ 2 ∷ 2 ∷ 2 ∷ 3 ∷ 3 ∷ 3 ∷ 4 ∷ 4 ∷ 5 ∷ []

abbrev pub tos : List ℕ
tos = 1 ∷ 2 ∷ 3 ∷ 4 ∷ 5 ∷ 6 ∷ 2 ∷ 3 ∷ 4 ∷ 5 ∷ 6 ∷ 3 ∷ 4 ∷ 5 ∷ 6 ∷ 4 ∷ 5 ∷ 6 ∷ 5 ∷ 6 ∷ 6 ∷ []

-- the number of the first range from each block on
abbrev pub firsts : List ℕ
firsts = 0 ∷ 6 ∷ 11 ∷ 15 ∷ 18 ∷ 20 ∷ []

-- the run of a row
abbrev pub run_of : ℕ → Run
run_of row = record { from = slice_index froms (row % 21); to = slice_index tos (row % 21); kind = row / 21 + 1 }

-- the row of a run
abbrev pub row_of : Run → ℕ
row_of run = 21 * (run.kind - 1) + slice_index firsts run.from + (run.to - run.from - 1)

-- how many rows a channel has: LFE has D15 alone
abbrev pub rows_of : Lead → ℕ
rows_of lead = 21 * greatest_kind lead
