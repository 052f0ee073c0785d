-- Counts of mantissas in the lanes of one number: 16 bits for each count. This project's own.
use Rattle.std.specs.Prelude.{ℕ, ◌+◌, ◌*◌, ◌^◌, pos, ◌-ℤ◌, List, slice_index}
use Rattle.ac_base.specs.Allocation.{masktab_list}
use Rattle.ac_base.specs.Counts.{Tally}
use Rattle.ac_alloc.specs.Keys.{pointer_above}

-- a tally in four lanes
abbrev pub packed : Tally → ℕ
packed t = t.linear + 2 ^ 16 * t.n1 + 2 ^ 32 * t.n2 + 2 ^ 48 * t.n4

-- the pointer at an index: of a bin whose key is 3000 - i above the offset (A/52 7.2.2.7)
abbrev pub pointer_at : ℕ → ℕ
pointer_at i = pointer_above (pos 3000 -ℤ pos i)

-- the pointer of bin k at offset t, by levels and bases
abbrev pub pointer_of : List ℕ → List ℕ → ℕ → ℕ → ℕ
pointer_of levels bases t k = pointer_at (slice_index bases (slice_index masktab_list k) + 4 * slice_index levels k + t)
