use Rattle.std.proofs.Common.{◌≡◌, ℕ, ◌<◌, [], length, slice_index_or}
use Rattle.ac_coding.specs.Rows.{exponent_by}
use Rattle.ac_coding.specs.Values.{row_at}
use Rattle.ac_coding.proofs.exponents.write_channel.Given as goal

abbrev pub invariant-loop-b : goal.invariant-loop-b
invariant-loop-b l =
    (length l.rows ≡ 6)
    × ((a : ℕ) → a < l.b → slice_index_or l.rows a [] ≡ row_at l.shape (exponent_by l.shape l.raw.e l.assign.w) l.c a)
