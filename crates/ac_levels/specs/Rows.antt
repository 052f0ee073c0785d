-- Exponents as levels, and the rows that keep the lists of all runs of a channel (this project's own).
use Rattle.std.specs.Prelude.{◌≡◌, ℕ, zero, suc, ◌+◌, ◌-◌, ◌*◌, ◌<◌, ◌≤◌, max, List, [], length, slice_index, slice_index_or}
use Rattle.ac_base.specs.declared.spans.Span.{Span}
use Rattle.ac_base.specs.Spans.{IsIn, IsKind}
use Rattle.ac_expo.specs.Greatest.{exponent_of}

-- the level of an exponent
abbrev pub level_of : ℕ → ℕ
level_of exponent = 8 * (24 - exponent)

-- of the 21 ranges of blocks, how many begin before block n
unfoldable pub ranges_before : ℕ → ℕ
ranges_before zero = 0
ranges_before (suc n) = ranges_before n + (6 - n)

-- the row of a run: by kind, then by its first block, then by its last
abbrev pub row_of : ℕ → ℕ → ℕ → ℕ
row_of kind from to = 21 * (kind - 1) + ranges_before from + (to - from - 1)

-- a row has the levels of a run
abbrev pub AreLevels : ℕ → Span → List (List ℕ) → ℕ → ℕ → List ℕ → Type 0
AreLevels kind span raw from to row = (k : ℕ) → IsIn span k → slice_index row k ≡ level_of (exponent_of kind span raw from to k)

-- the rows have the levels of all runs
abbrev pub AreRows : Span → List (List ℕ) → List (List ℕ) → Type 0
AreRows span raw rows =
    (kind from to : ℕ) → IsKind kind span → from < to → to ≤ 6
    → AreLevels kind span raw from to (slice_index_or rows (row_of kind from to) [])

-- ---- rows by blocks

-- six rows have the levels of the single blocks
abbrev pub AreBlocks : ℕ → Span → List (List ℕ) → List (List ℕ) → Type 0
AreBlocks kind span raw blocks = (b : ℕ) → b < 6 → AreLevels kind span raw b (b + 1) (slice_index_or blocks b [])

-- the greatest level of a bin in block `from` and the n blocks behind it
unfoldable pub most : List (List ℕ) → ℕ → ℕ → ℕ → ℕ
most blocks from zero bin = slice_index (slice_index_or blocks from []) bin
most blocks from (suc n) bin = max (most blocks from n bin) (slice_index (slice_index_or blocks (from + suc n) []) bin)

-- the row of each range that begins at a block has the greatest levels of its blocks
abbrev pub AreMost : List (List ℕ) → ℕ → ℕ → List (List ℕ) → Type 0
AreMost blocks from at rows = (n k : ℕ) → from + n < 6 → k < 256 → slice_index (slice_index_or rows (at + n) []) k ≡ most blocks from n k

-- rows before `low` and from `high` on stay
abbrev pub KeepsOthers : ℕ → ℕ → List (List ℕ) → List (List ℕ) → Type 0
KeepsOthers low high old new =
    ((r : ℕ) → r < low → slice_index_or new r [] ≡ slice_index_or old r [])
    × ((r : ℕ) → high ≤ r → slice_index_or new r [] ≡ slice_index_or old r [])

-- ---- rows of the first kinds

-- the rows of the kinds below one
pub record AreRowsBelow (span : Span) (raw : List (List ℕ)) (kinds : ℕ) (rows : List (List ℕ)) : Type 0 where
  pub long : length rows ≡ 63
  pub filled : (kind from to : ℕ) → 1 ≤ kind → kind < kinds → from < to → to ≤ 6
      → AreLevels kind span raw from to (slice_index_or rows (row_of kind from to) [])
